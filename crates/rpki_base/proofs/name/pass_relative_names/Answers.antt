use Rattle.std.proofs.Common.{refl}
use Rattle.rpki_der.proofs.Reading.{not_ended}
use Rattle.rpki_der.proofs.Counting.{continues_item, stops_item, takes_smaller}
use Rattle.rpki_der.proofs.Leftovers.{takes_rest_err}
use Rattle.rpki_base.proofs.Eachs.{each_first, each_left}
use Rattle.rpki_base.proofs.name.pass_relative_names.Goals as goal

pub names-init : goal.names-init
names-init g c = each_first _ _ _

pub names-smaller : goal.names-smaller
names-smaller g c = takes_smaller _ _ _ _ _ _ _ c.in_ok-pass_relative_name.ensures

pub names-preserved : goal.names-preserved
names-preserved g c = continues_item _ _ _ _ _ _ _ _ _ _ _ _ refl c.names.invariant c.in_ok-pass_relative_name.ensures

pub returns-in_err-pass_relative_name : goal.returns-in_err-pass_relative_name
returns-in_err-pass_relative_name g c = takes_rest_err _ _ _ _ _ _ _ _ _ _ c.from_residual.ensures.1 (c.names.invariant.stops _ _ _ (stops_item _ _ _ _ _ _ _ _ refl (not_ended c.names-test.ensures) c.in_err-pass_relative_name.ensures))

pub returns : goal.returns
returns g c = each_left _ _ _ _ _ _ _ _ c.names.invariant (c.names-test.ensures.0 refl) c.leave_counted.ensures.place c.leave_counted.ensures.ticks
