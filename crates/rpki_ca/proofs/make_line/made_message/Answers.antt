use Rattle.rpki_ca.proofs.Making.{nothing_before, one_lawful_more, next_change, all_made, all_writable}
use Rattle.rpki_ca.proofs.make_line.made_message.Goals as goal

pub loop-place-init : goal.loop-place-init
loop-place-init c = (c.empty-delta.ensures, nothing_before)

pub loop-place-preserved : goal.loop-place-preserved
loop-place-preserved c = (
  next_change c.args.seed c.loop-place.place _ _ c.loop-place.invariant.0 c.in_ok-add_change.ensures.ok,
  one_lawful_more c.loop-place.place c.loop-place.invariant.1
      c.in_ok-add_change.ensures.lawful,
)

pub returns-clause-message : goal.returns-clause-message
returns-clause-message c = all_made c.args.seed c.loop-place.place c.args.count _ _ c.loop-place.auto.place-end c.loop-place-test.false c.loop-place.invariant.0 c.delta-2.ensures

pub returns-clause-writable : goal.returns-clause-writable
returns-clause-writable c =
    all_writable c.args.seed c.loop-place.place c.args.count _ (all_made c.args.seed c.loop-place.place c.args.count _ _ c.loop-place.auto.place-end c.loop-place-test.false
    c.loop-place.invariant.0 c.delta-2.ensures) c.loop-place-test.false c.loop-place.invariant.1
