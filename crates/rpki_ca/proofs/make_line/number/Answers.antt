use Rattle.std.proofs.Common.{refl, arith, sym, ◌∙◌}
use Rattle.rpki_ca.proofs.Making.{counted_yes, counted_no, counted_all}
use Rattle.rpki_ca.proofs.make_line.number.Goals.{then-does, else-does}
use Rattle.rpki_ca.proofs.make_line.number.Goals as goal

pub loop-change-init : goal.loop-change-init
loop-change-init c = (refl, omega arith)

pub loop-change-preserved : goal.loop-change-preserved
loop-change-preserved c =
    elim c.if-does.branch [
      | then-does w ↦
          counted_yes c.args.action c.args.changes.now c.loop-change.change-index c.loop-change.number c.if-does.number c.change-item.result c.loop-change-test.true c.change-item.is
          (sym c.does.ensures ∙ w.if-does.true) w.number-is c.loop-change.invariant
      | else-does w ↦
          counted_no c.args.action c.args.changes.now c.loop-change.change-index c.loop-change.number c.if-does.number c.change-item.result c.loop-change-test.true c.change-item.is
          (sym c.does.ensures ∙ w.if-does.false) w.number-is c.loop-change.invariant
    ]

pub returns : goal.returns
returns c = counted_all c.args.action c.args.changes.now c.loop-change.change-index c.loop-change.number c.loop-change.auto.change-index-end c.loop-change-test.false c.loop-change.invariant
