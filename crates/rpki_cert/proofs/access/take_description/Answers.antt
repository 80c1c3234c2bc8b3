-- by tools/proofs/answers.py rpki_cert access take_description Access access_description enter_counted method location leave_counted
use Rattle.std.proofs.Common.{refl}
use Rattle.rpki_cert.specs.Access.{access_description}
use Rattle.rpki_der.proofs.Counting.{reads_done, reads_first, refuses_inside, refuses_within, stops_done, stops_first, stops_later, takes_err, takes_within}
use Rattle.rpki_cert.proofs.access.take_description.Goals as goal

pub returns-in_err-enter_counted : goal.returns-in_err-enter_counted
unfolding access_description
returns-in_err-enter_counted g c = takes_err _ _ _ _ _ _ _ _ _ c.from_residual.ensures.1
    (refuses_within _ _ _ c.args.cursor.now _ _ _ c.in_err-enter_counted.ensures.place c.in_err-enter_counted.ensures.ticks)

pub returns-in_err-method : goal.returns-in_err-method
unfolding access_description
returns-in_err-method g c = takes_err _ _ _ _ _ _ _ _ _ c.from_residual-in_err-method.ensures.1
    (refuses_inside _ _ _ _ _ _ _ _ _ _ refl c.in_ok-enter_counted.ensures.place c.in_ok-enter_counted.ensures.ticks
    (stops_first _ _ _ _ _ _ _ _ refl c.in_err-method.ensures))

pub returns-in_err-location : goal.returns-in_err-location
unfolding access_description
returns-in_err-location g c = takes_err _ _ _ _ _ _ _ _ _ c.from_residual-in_err-location.ensures.1
    (refuses_inside _ _ _ _ _ _ _ _ _ _ refl c.in_ok-enter_counted.ensures.place c.in_ok-enter_counted.ensures.ticks
    (stops_later _ _ _ _ _ _ _ _ _ _ _ _ refl c.in_ok-method.ensures
    (stops_first _ _ _ _ _ _ _ _ refl c.in_err-location.ensures)))

pub returns-in_err-leave_counted : goal.returns-in_err-leave_counted
unfolding access_description
returns-in_err-leave_counted g c = takes_err _ _ _ _ _ _ _ _ _ c.from_residual-in_err-leave_counted.ensures.1
    (refuses_inside _ _ _ _ _ _ _ _ _ _ refl c.in_ok-enter_counted.ensures.place c.in_ok-enter_counted.ensures.ticks
    (stops_later _ _ _ _ _ _ _ _ _ _ _ _ refl c.in_ok-method.ensures
    (stops_later _ _ _ _ _ _ _ _ _ _ _ _ refl c.in_ok-location.ensures
    (stops_done _ _ _ _ _ _ c.in_err-leave_counted.ensures.place c.in_err-leave_counted.ensures.refused))))

pub returns : goal.returns
unfolding access_description
returns g c = takes_within _ _ _ _ _ _ _ _ _ _ _ refl c.in_ok-enter_counted.ensures.place c.in_ok-enter_counted.ensures.ticks
    (reads_first _ _ _ _ _ _ _ _ _ _ _ _ _ refl c.in_ok-method.ensures
    (reads_first _ _ _ _ _ _ _ _ _ _ _ _ _ refl c.in_ok-location.ensures
    (reads_done _ _ _ _ _ _ refl c.in_ok-leave_counted.ensures.place c.in_ok-leave_counted.ensures.ticks)))
