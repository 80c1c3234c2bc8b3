use Rattle.std.proofs.Common.{ap, sym, subst, Err, arith}
use Rattle.rpki_der.specs.Position.{Position}
use Rattle.rpki_der.specs.Header.{IdentifierFirst, NoIdentifier}
use Rattle.rpki_der.proofs.Reading.{not_ended}
use Rattle.rpki_der.proofs.Items.{optional_err, whole_with, not_absent, not_absent_unidentified, refuses_optional, none_identified}
use Rattle.rpki_der.proofs.Stops.{stops_first}
use Rattle.rpki_der.proofs.cursor.Cursor.take_opt_if_counted.Goals as goal

pub returns-in_ok-item-in-Some-clause-value : goal.returns-in_ok-item-in-Some-clause-value
returns-in_ok-item-in-Some-clause-value g c =
    let f = subst (λ (p : Position). IdentifierFirst p.here c.in-Some.identifier.now c.in-Some.behind.now) c.self.view_is c.in-Some.ensures.found in
    whole_with _ _ _ _ _ _ _ _ _ f (sym c.if-tag_is.ensures) c.in_ok-item-in-Some.ensures.ok c.in_ok-item-in-Some.ensures.place c.tick.ensures

pub returns-in_err-item-in-Some-clause-value : goal.returns-in_err-item-in-Some-clause-value
returns-in_err-item-in-Some-clause-value g c =
    let f = subst (λ (p : Position). IdentifierFirst p.here c.in-Some.identifier.now c.in-Some.behind.now) c.self.view_is c.in-Some.ensures.found in
    optional_err _ c.args.self.now _ _ _ _ _ c.from_residual.ensures.1 (refuses_optional _ c.args.self.now _ _ _ (not_absent _ c.args.self.now _ _ (not_ended c.if-end.ensures) f (sym c.if-tag_is.ensures)) (λ e. c.in_err-item-in-Some.ensures.malformed (ap Err e)) (omega (arith, c.tick.ensures, c.in_err-item-in-Some.ensures.later)) (omega (arith, c.tick.ensures, c.in_err-item-in-Some.ensures.refused)))

pub returns-in-None-clause-value : goal.returns-in-None-clause-value
returns-in-None-clause-value g c =
    let none = subst (λ (p : Position). NoIdentifier p.here) c.self.view_is c.in-None.ensures.none in
    refuses_optional _ c.args.self.now _ _ _ (not_absent_unidentified _ c.args.self.now (not_ended c.if-end.ensures) none) (λ e. none_identified c.args.self.now.mode _ none) (omega (arith, c.tick.ensures)) (omega (arith, c.tick.ensures))

pub returns-in-None-clause-stopped : goal.returns-in-None-clause-stopped
returns-in-None-clause-stopped g c = stops_first 1 _ _ _ _ _ (omega (arith, c.tick.ensures))
