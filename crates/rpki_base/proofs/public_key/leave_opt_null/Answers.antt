-- by tools/proofs/answers.py rpki_base public_key leave_opt_null PublicKey parameters - '?take_opt_null_counted:fields' leave_counted
use Rattle.std.proofs.Common.{refl}
use Rattle.rpki_base.specs.PublicKey.{parameters}
use Rattle.rpki_der.proofs.Counting.{reads_done, reads_part, stops_behind, stops_done, stops_part}
use Rattle.rpki_der.proofs.Leftovers.{takes_rest_err}
use Rattle.rpki_base.proofs.public_key.leave_opt_null.Goals as goal

pub returns-in_err-take_opt_null_counted : goal.returns-in_err-take_opt_null_counted
unfolding parameters
returns-in_err-take_opt_null_counted g c = takes_rest_err _ _ _ _ _ _ _ _ _ _ c.from_residual.ensures.1 (stops_part _ _ _ _ _ _ _ _ _ refl c.in_err-take_opt_null_counted.ensures.fields)

pub returns-in_err-leave_counted : goal.returns-in_err-leave_counted
unfolding parameters
returns-in_err-leave_counted g c = takes_rest_err _ _ _ _ _ _ _ _ _ _ c.from_residual-in_err-leave_counted.ensures.1
    (stops_behind _ _ _ _ _ _ _ _ _ _ _ _ _ refl c.in_ok-take_opt_null_counted.ensures.fields
    (stops_done _ _ _ _ _ _ c.in_err-leave_counted.ensures.place c.in_err-leave_counted.ensures.refused))

pub returns : goal.returns
unfolding parameters
returns g c = reads_part _ _ _ _ _ _ _ _ _ _ _ _ _ _ refl c.in_ok-take_opt_null_counted.ensures.fields
    (reads_done _ _ _ _ _ _ refl c.in_ok-leave_counted.ensures.place c.in_ok-leave_counted.ensures.ticks)
