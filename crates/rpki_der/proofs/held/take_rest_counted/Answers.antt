use Rattle.std.proofs.Common.{refl}
use Rattle.rpki_der.proofs.Reading.{not_ended}
use Rattle.rpki_der.proofs.Counting.{continues_item, stops_item, takes_smaller}
use Rattle.rpki_der.proofs.Leftovers.{takes_rest_err, every_any, continues_as}
use Rattle.rpki_der.proofs.Holding.{stops_octets, rest_left}
use Rattle.rpki_der.proofs.held.take_rest_counted.Goals as goal

pub values-init : goal.values-init
values-init g c = continues_as _ _ _ _ _ every_any

pub values-smaller : goal.values-smaller
values-smaller g c = takes_smaller _ _ _ _ _ _ _ c.in_ok-capture_counted.ensures.value

pub values-preserved : goal.values-preserved
values-preserved g c = continues_item _ _ _ _ _ _ _ _ _ _ _ _ refl c.values.invariant c.in_ok-capture_counted.ensures.value

pub returns-in_err-capture_counted : goal.returns-in_err-capture_counted
returns-in_err-capture_counted g c = takes_rest_err _ _ _ _ _ _ _ _ _ _ c.from_residual.ensures.1 (stops_octets _ _ _ _ _ _ (c.values.invariant.stops _ _ _ (stops_item _ _ _ _ _ _ _ _ refl (not_ended c.values-test.ensures) c.in_err-capture_counted.ensures.value)))

pub returns : goal.returns
returns g c = rest_left _ _ _ _ _ _ _ _ c.values.invariant (c.values-test.ensures.0 refl) c.here-start.ensures c.leave_since_counted.ensures.place c.leave_since_counted.ensures.contents c.leave_since_counted.ensures.ticks
