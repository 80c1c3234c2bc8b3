use Rattle.std.proofs.Common.{sym, subst, arith}
use Rattle.rpki_der.specs.Position.{Position}
use Rattle.rpki_der.specs.Header.{IdentifierFirst, NoIdentifier}
use Rattle.rpki_der.proofs.Items.{takes_with, refuses_other, refuses_unidentified}
use Rattle.rpki_der.proofs.Stops.{stops_first}
use Rattle.rpki_der.proofs.cursor.Cursor.take_if_counted.Goals.{in_default-via-in-Some+else-tag_is, in_default-via-in_default}
use Rattle.rpki_der.proofs.cursor.Cursor.take_if_counted.Goals as goal

pub returns-in-Some-clause-value : goal.returns-in-Some-clause-value
returns-in-Some-clause-value g c =
    let f = subst (λ (p : Position). IdentifierFirst p.here c.in-Some.identifier.now c.in-Some.behind.now) c.self.view_is c.in-Some.ensures.found in
    takes_with _ _ _ _ _ _ _ _ _ f (sym c.if-tag_is.ensures) c.take_behind.ensures.ok c.take_behind.ensures.place c.take_behind.ensures.malformed c.take_behind.ensures.later c.take_behind.ensures.refused c.tick.ensures

pub returns-in_default-clause-value : goal.returns-in_default-clause-value
returns-in_default-clause-value g c =
    elim c.in_default.branch [
      | in_default-via-in-Some+else-tag_is w ↦
          let f = subst (λ (p : Position). IdentifierFirst p.here w.in-Some.identifier.now w.in-Some.behind.now) c.self.view_is w.in-Some.ensures.found in
          refuses_other _ c.args.self.now _ _ _ _ f (sym w.if-tag_is.ensures) c.tick.ensures
      | in_default-via-in_default w ↦
          let none = subst (λ (p : Position). NoIdentifier p.here) c.self.view_is w.in_default.ensures.none in
          refuses_unidentified _ c.args.self.now _ _ none c.tick.ensures
    ]

pub returns-in_default-clause-stopped : goal.returns-in_default-clause-stopped
returns-in_default-clause-stopped g c = stops_first 1 _ _ _ _ _ (omega (arith, c.tick.ensures))
