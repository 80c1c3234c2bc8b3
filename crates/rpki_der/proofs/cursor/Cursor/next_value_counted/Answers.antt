use Rattle.std.proofs.Common.{ap, subst, Err, arith}
use Rattle.rpki_der.specs.Position.{Position}
use Rattle.rpki_der.specs.Header.{NoIdentifier}
use Rattle.rpki_der.proofs.Reading.{not_ended}
use Rattle.rpki_der.proofs.Items.{next_err, whole_any, refuses_next, none_identified}
use Rattle.rpki_der.proofs.Stops.{stops_first}
use Rattle.rpki_der.proofs.cursor.Cursor.next_value_counted.Goals as goal

pub returns-in_ok-value-in-Some-clause-value : goal.returns-in_ok-value-in-Some-clause-value
returns-in_ok-value-in-Some-clause-value g c = whole_any _ _ _ _ _ _ c.in_ok-value-in-Some.ensures.ok c.in_ok-value-in-Some.ensures.place c.tick.ensures

pub returns-in_err-value-in-Some-clause-value : goal.returns-in_err-value-in-Some-clause-value
returns-in_err-value-in-Some-clause-value g c = next_err c.args.self.now _ c.args.steps.now _ _ _ c.from_residual.ensures.1 (refuses_next c.args.self.now c.args.steps.now _ _ (not_ended c.if-end.ensures) (λ e. c.in_err-value-in-Some.ensures.malformed (ap Err e)) (omega (arith, c.tick.ensures, c.in_err-value-in-Some.ensures.later)) (omega (arith, c.tick.ensures, c.in_err-value-in-Some.ensures.refused)))

pub returns-in-None-clause-value : goal.returns-in-None-clause-value
returns-in-None-clause-value g c =
    let none = subst (λ (p : Position). NoIdentifier p.here) c.self.view_is c.in-None.ensures.none in
    refuses_next c.args.self.now _ _ _ (not_ended c.if-end.ensures) (λ e. none_identified c.args.self.now.mode _ none) (omega (arith, c.tick.ensures)) (omega (arith, c.tick.ensures))

pub returns-in-None-clause-stopped : goal.returns-in-None-clause-stopped
returns-in-None-clause-stopped g c = stops_first 1 _ _ _ _ _ (omega (arith, c.tick.ensures))
