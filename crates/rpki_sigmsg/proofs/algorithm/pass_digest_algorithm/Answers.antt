-- by tools/proofs/answers.py rpki_sigmsg algorithm pass_digest_algorithm Algorithm digest_algorithm enter_counted take_oid_if_counted '?take_opt_null_counted:fields' leave_counted
use Rattle.std.proofs.Common.{refl}
use Rattle.rpki_der.proofs.Counting.{reads_done, reads_first, reads_part, refuses_inside, refuses_within, stops_behind, stops_done, stops_first, stops_later, stops_part, takes_err, takes_within}
use Rattle.rpki_sigmsg.specs.Algorithm.{digest_algorithm}
use Rattle.rpki_sigmsg.proofs.algorithm.pass_digest_algorithm.Goals as goal

pub returns-in_err-enter_counted : goal.returns-in_err-enter_counted
unfolding digest_algorithm
returns-in_err-enter_counted g c = takes_err _ _ _ _ _ _ _ _ _ c.from_residual.ensures.1
    (refuses_within _ _ _ c.args.cursor.now _ _ _ c.in_err-enter_counted.ensures.place c.in_err-enter_counted.ensures.ticks)

pub returns-in_err-take_oid_if_counted : goal.returns-in_err-take_oid_if_counted
unfolding digest_algorithm
returns-in_err-take_oid_if_counted g c = takes_err _ _ _ _ _ _ _ _ _ c.from_residual-in_err-take_oid_if_counted.ensures.1
    (refuses_inside _ _ _ _ _ _ _ _ _ _ refl c.in_ok-enter_counted.ensures.place c.in_ok-enter_counted.ensures.ticks
    (stops_first _ _ _ _ _ _ _ _ refl c.in_err-take_oid_if_counted.ensures))

pub returns-in_err-take_opt_null_counted : goal.returns-in_err-take_opt_null_counted
unfolding digest_algorithm
returns-in_err-take_opt_null_counted g c = takes_err _ _ _ _ _ _ _ _ _ c.from_residual-in_err-take_opt_null_counted.ensures.1
    (refuses_inside _ _ _ _ _ _ _ _ _ _ refl c.in_ok-enter_counted.ensures.place c.in_ok-enter_counted.ensures.ticks
    (stops_later _ _ _ _ _ _ _ _ _ _ _ _ refl c.in_ok-take_oid_if_counted.ensures
    (stops_part _ _ _ _ _ _ _ _ _ refl c.in_err-take_opt_null_counted.ensures.fields)))

pub returns-in_err-leave_counted : goal.returns-in_err-leave_counted
unfolding digest_algorithm
returns-in_err-leave_counted g c = takes_err _ _ _ _ _ _ _ _ _ c.from_residual-in_err-leave_counted.ensures.1
    (refuses_inside _ _ _ _ _ _ _ _ _ _ refl c.in_ok-enter_counted.ensures.place c.in_ok-enter_counted.ensures.ticks
    (stops_later _ _ _ _ _ _ _ _ _ _ _ _ refl c.in_ok-take_oid_if_counted.ensures
    (stops_behind _ _ _ _ _ _ _ _ _ _ _ _ _ refl c.in_ok-take_opt_null_counted.ensures.fields
    (stops_done _ _ _ _ _ _ c.in_err-leave_counted.ensures.place c.in_err-leave_counted.ensures.refused))))

pub returns : goal.returns
unfolding digest_algorithm
returns g c = takes_within _ _ _ _ _ _ _ _ _ _ _ refl c.in_ok-enter_counted.ensures.place c.in_ok-enter_counted.ensures.ticks
    (reads_first _ _ _ _ _ _ _ _ _ _ _ _ _ refl c.in_ok-take_oid_if_counted.ensures
    (reads_part _ _ _ _ _ _ _ _ _ _ _ _ _ _ refl c.in_ok-take_opt_null_counted.ensures.fields
    (reads_done _ _ _ _ _ _ refl c.in_ok-leave_counted.ensures.place c.in_ok-leave_counted.ensures.ticks)))
