-- by tools/proofs/answers.py rpki_base name pass_attribute Name name_attribute enter_counted take_oid_counted capture_counted:value leave_counted
use Rattle.std.proofs.Common.{refl}
use Rattle.rpki_base.specs.Name.{name_attribute}
use Rattle.rpki_der.proofs.Counting.{reads_done, reads_first, refuses_inside, refuses_within, stops_done, stops_first, stops_later, takes_err, takes_within}
use Rattle.rpki_base.proofs.name.pass_attribute.Goals as goal

pub returns-in_err-enter_counted : goal.returns-in_err-enter_counted
unfolding name_attribute
returns-in_err-enter_counted g c = takes_err _ _ _ _ _ _ _ _ _ c.from_residual.ensures.1
    (refuses_within _ _ _ c.args.cursor.now _ _ _ c.in_err-enter_counted.ensures.place c.in_err-enter_counted.ensures.ticks)

pub returns-in_err-take_oid_counted : goal.returns-in_err-take_oid_counted
unfolding name_attribute
returns-in_err-take_oid_counted g c = takes_err _ _ _ _ _ _ _ _ _ c.from_residual-in_err-take_oid_counted.ensures.1
    (refuses_inside _ _ _ _ _ _ _ _ _ _ refl c.in_ok-enter_counted.ensures.place c.in_ok-enter_counted.ensures.ticks
    (stops_first _ _ _ _ _ _ _ _ refl c.in_err-take_oid_counted.ensures))

pub returns-in_err-capture_counted : goal.returns-in_err-capture_counted
unfolding name_attribute
returns-in_err-capture_counted g c = takes_err _ _ _ _ _ _ _ _ _ c.from_residual-in_err-capture_counted.ensures.1
    (refuses_inside _ _ _ _ _ _ _ _ _ _ refl c.in_ok-enter_counted.ensures.place c.in_ok-enter_counted.ensures.ticks
    (stops_later _ _ _ _ _ _ _ _ _ _ _ _ refl c.in_ok-take_oid_counted.ensures
    (stops_first _ _ _ _ _ _ _ _ refl c.in_err-capture_counted.ensures.value)))

pub returns-in_err-leave_counted : goal.returns-in_err-leave_counted
unfolding name_attribute
returns-in_err-leave_counted g c = takes_err _ _ _ _ _ _ _ _ _ c.from_residual-in_err-leave_counted.ensures.1
    (refuses_inside _ _ _ _ _ _ _ _ _ _ refl c.in_ok-enter_counted.ensures.place c.in_ok-enter_counted.ensures.ticks
    (stops_later _ _ _ _ _ _ _ _ _ _ _ _ refl c.in_ok-take_oid_counted.ensures
    (stops_later _ _ _ _ _ _ _ _ _ _ _ _ refl c.in_ok-capture_counted.ensures.value
    (stops_done _ _ _ _ _ _ c.in_err-leave_counted.ensures.place c.in_err-leave_counted.ensures.refused))))

pub returns : goal.returns
unfolding name_attribute
returns g c = takes_within _ _ _ _ _ _ _ _ _ _ _ refl c.in_ok-enter_counted.ensures.place c.in_ok-enter_counted.ensures.ticks
    (reads_first _ _ _ _ _ _ _ _ _ _ _ _ _ refl c.in_ok-take_oid_counted.ensures
    (reads_first _ _ _ _ _ _ _ _ _ _ _ _ _ refl c.in_ok-capture_counted.ensures.value
    (reads_done _ _ _ _ _ _ refl c.in_ok-leave_counted.ensures.place c.in_ok-leave_counted.ensures.ticks)))
