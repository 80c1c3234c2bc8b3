-- by tools/proofs/answers.py rpki_base validity Validity.take_from_counted Validity validity enter_counted not_before not_after leave_counted =new
use Rattle.std.proofs.Common.{refl}
use Rattle.rpki_base.specs.Validity.{validity}
use Rattle.rpki_der.proofs.Counting.{reads_done, reads_first, refuses_inside, refuses_within, stops_done, stops_first, stops_later, takes_err, takes_within}
use Rattle.rpki_base.proofs.validity.Validity.take_from_counted.Goals as goal

pub returns-in_err-enter_counted : goal.returns-in_err-enter_counted
unfolding validity
returns-in_err-enter_counted g c = takes_err _ _ _ _ _ _ _ _ _ c.from_residual.ensures.1
    (refuses_within _ _ _ c.args.cursor.now _ _ _ c.in_err-enter_counted.ensures.place c.in_err-enter_counted.ensures.ticks)

pub returns-in_err-not_before : goal.returns-in_err-not_before
unfolding validity
returns-in_err-not_before g c = takes_err _ _ _ _ _ _ _ _ _ c.from_residual-in_err-not_before.ensures.1
    (refuses_inside _ _ _ _ _ _ _ _ _ _ refl c.in_ok-enter_counted.ensures.place c.in_ok-enter_counted.ensures.ticks
    (stops_first _ _ _ _ _ _ _ _ refl c.in_err-not_before.ensures))

pub returns-in_err-not_after : goal.returns-in_err-not_after
unfolding validity
returns-in_err-not_after g c = takes_err _ _ _ _ _ _ _ _ _ c.from_residual-in_err-not_after.ensures.1
    (refuses_inside _ _ _ _ _ _ _ _ _ _ refl c.in_ok-enter_counted.ensures.place c.in_ok-enter_counted.ensures.ticks
    (stops_later _ _ _ _ _ _ _ _ _ _ _ _ refl c.in_ok-not_before.ensures
    (stops_first _ _ _ _ _ _ _ _ refl c.in_err-not_after.ensures)))

pub returns-in_err-leave_counted : goal.returns-in_err-leave_counted
unfolding validity
returns-in_err-leave_counted g c = takes_err _ _ _ _ _ _ _ _ _ c.from_residual-in_err-leave_counted.ensures.1
    (refuses_inside _ _ _ _ _ _ _ _ _ _ refl c.in_ok-enter_counted.ensures.place c.in_ok-enter_counted.ensures.ticks
    (stops_later _ _ _ _ _ _ _ _ _ _ _ _ refl c.in_ok-not_before.ensures
    (stops_later _ _ _ _ _ _ _ _ _ _ _ _ refl c.in_ok-not_after.ensures
    (stops_done _ _ _ _ _ _ c.in_err-leave_counted.ensures.place c.in_err-leave_counted.ensures.refused))))

pub returns : goal.returns
unfolding validity
returns g c = rw c.new.ensures
    (takes_within _ _ _ _ _ _ _ _ _ _ _ refl c.in_ok-enter_counted.ensures.place c.in_ok-enter_counted.ensures.ticks
    (reads_first _ _ _ _ _ _ _ _ _ _ _ _ _ refl c.in_ok-not_before.ensures
    (reads_first _ _ _ _ _ _ _ _ _ _ _ _ _ refl c.in_ok-not_after.ensures
    (reads_done _ _ _ _ _ _ refl c.in_ok-leave_counted.ensures.place c.in_ok-leave_counted.ensures.ticks))))
