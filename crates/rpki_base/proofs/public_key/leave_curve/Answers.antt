-- by tools/proofs/answers.py rpki_base public_key leave_curve PublicKey parameters - take_oid_if_counted leave_counted
use Rattle.std.proofs.Common.{refl}
use Rattle.rpki_base.specs.PublicKey.{parameters}
use Rattle.rpki_der.proofs.Counting.{reads_done, reads_first, stops_done, stops_first, stops_later}
use Rattle.rpki_der.proofs.Leftovers.{takes_rest_err}
use Rattle.rpki_base.proofs.public_key.leave_curve.Goals as goal

pub returns-in_err-take_oid_if_counted : goal.returns-in_err-take_oid_if_counted
unfolding parameters
returns-in_err-take_oid_if_counted g c = takes_rest_err _ _ _ _ _ _ _ _ _ _ c.from_residual.ensures.1 (stops_first _ _ _ _ _ _ _ _ refl c.in_err-take_oid_if_counted.ensures)

pub returns-in_err-leave_counted : goal.returns-in_err-leave_counted
unfolding parameters
returns-in_err-leave_counted g c = takes_rest_err _ _ _ _ _ _ _ _ _ _ c.from_residual-in_err-leave_counted.ensures.1
    (stops_later _ _ _ _ _ _ _ _ _ _ _ _ refl c.in_ok-take_oid_if_counted.ensures
    (stops_done _ _ _ _ _ _ c.in_err-leave_counted.ensures.place c.in_err-leave_counted.ensures.refused))

pub returns : goal.returns
unfolding parameters
returns g c = reads_first _ _ _ _ _ _ _ _ _ _ _ _ _ refl c.in_ok-take_oid_if_counted.ensures (reads_done _ _ _ _ _ _ refl c.in_ok-leave_counted.ensures.place c.in_ok-leave_counted.ensures.ticks)
