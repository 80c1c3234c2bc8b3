use Rattle.std.proofs.Common.{refl}
use Rattle.rpki_der.proofs.Reading.{not_ended}
use Rattle.rpki_der.proofs.Counting.{continues_item, stops_item, takes_smaller}
use Rattle.rpki_der.proofs.Leftovers.{takes_rest_err}
use Rattle.rpki_base.proofs.Eachs.{each_first, each_left}
use Rattle.rpki_base.proofs.name.pass_attributes.Goals as goal

pub attributes-init : goal.attributes-init
attributes-init g c = each_first _ _ _

pub attributes-smaller : goal.attributes-smaller
attributes-smaller g c = takes_smaller _ _ _ _ _ _ _ c.in_ok-pass_attribute.ensures

pub attributes-preserved : goal.attributes-preserved
attributes-preserved g c = continues_item _ _ _ _ _ _ _ _ _ _ _ _ refl c.attributes.invariant c.in_ok-pass_attribute.ensures

pub returns-in_err-pass_attribute : goal.returns-in_err-pass_attribute
returns-in_err-pass_attribute g c = takes_rest_err _ _ _ _ _ _ _ _ _ _ c.from_residual.ensures.1 (c.attributes.invariant.stops _ _ _ (stops_item _ _ _ _ _ _ _ _ refl (not_ended c.attributes-test.ensures) c.in_err-pass_attribute.ensures))

pub returns : goal.returns
returns g c = each_left _ _ _ _ _ _ _ _ c.attributes.invariant (c.attributes-test.ensures.0 refl) c.leave_counted.ensures.place c.leave_counted.ensures.ticks
