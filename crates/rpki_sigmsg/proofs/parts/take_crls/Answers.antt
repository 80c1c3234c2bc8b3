-- by tools/proofs/answers.py rpki_sigmsg parts take_crls Message crl_set enter_counted one '?other' '!set' leave_counted =in_ok-set
use Rattle.std.proofs.Common.{refl}
use Rattle.rpki_der.proofs.Counting.{reads_done, reads_first, reads_part, refuses_inside, refuses_within, stops_behind, stops_done, stops_first, stops_later, stops_memory, stops_part, takes_err}
use Rattle.rpki_der.proofs.Counting.{takes_within}
use Rattle.rpki_sigmsg.specs.Message.{crl_set}
use Rattle.rpki_sigmsg.proofs.parts.take_crls.Goals as goal

pub returns-in_err-enter_counted : goal.returns-in_err-enter_counted
unfolding crl_set
returns-in_err-enter_counted g c = takes_err _ _ _ _ _ _ _ _ _ c.from_residual.ensures.1
    (refuses_within _ _ _ c.args.cursor.now _ _ _ c.in_err-enter_counted.ensures.place c.in_err-enter_counted.ensures.ticks)

pub returns-in_err-one : goal.returns-in_err-one
unfolding crl_set
returns-in_err-one g c = takes_err _ _ _ _ _ _ _ _ _ c.from_residual-in_err-one.ensures.1
    (refuses_inside _ _ _ _ _ _ _ _ _ _ refl c.in_ok-enter_counted.ensures.place c.in_ok-enter_counted.ensures.ticks
    (stops_first _ _ _ _ _ _ _ _ refl c.in_err-one.ensures))

pub returns-in_err-other : goal.returns-in_err-other
unfolding crl_set
returns-in_err-other g c = takes_err _ _ _ _ _ _ _ _ _ c.from_residual-in_err-other.ensures.1
    (refuses_inside _ _ _ _ _ _ _ _ _ _ refl c.in_ok-enter_counted.ensures.place c.in_ok-enter_counted.ensures.ticks
    (stops_later _ _ _ _ _ _ _ _ _ _ _ _ refl c.in_ok-one.ensures
    (stops_part _ _ _ _ _ _ _ _ _ refl c.in_err-other.ensures)))

pub returns-in_err-set : goal.returns-in_err-set
unfolding crl_set
returns-in_err-set g c = takes_err _ _ _ _ _ _ _ _ _ c.from_residual-in_err-set.ensures.1
    (refuses_inside _ _ _ _ _ _ _ _ _ _ refl c.in_ok-enter_counted.ensures.place c.in_ok-enter_counted.ensures.ticks
    (stops_later _ _ _ _ _ _ _ _ _ _ _ _ refl c.in_ok-one.ensures
    (stops_behind _ _ _ _ _ _ _ _ _ _ _ _ _ refl c.in_ok-other.ensures
    (stops_memory _ _ _ _ _ refl))))

pub returns-in_err-leave_counted : goal.returns-in_err-leave_counted
unfolding crl_set
returns-in_err-leave_counted g c = takes_err _ _ _ _ _ _ _ _ _ c.from_residual-in_err-leave_counted.ensures.1
    (refuses_inside _ _ _ _ _ _ _ _ _ _ refl c.in_ok-enter_counted.ensures.place c.in_ok-enter_counted.ensures.ticks
    (stops_later _ _ _ _ _ _ _ _ _ _ _ _ refl c.in_ok-one.ensures
    (stops_behind _ _ _ _ _ _ _ _ _ _ _ _ _ refl c.in_ok-other.ensures
    (stops_done _ _ _ _ _ _ c.in_err-leave_counted.ensures.place c.in_err-leave_counted.ensures.refused))))

pub returns : goal.returns
unfolding crl_set
returns g c = rw c.in_ok-set.ensures
    (takes_within _ _ _ _ _ _ _ _ _ _ _ refl c.in_ok-enter_counted.ensures.place c.in_ok-enter_counted.ensures.ticks
    (reads_first _ _ _ _ _ _ _ _ _ _ _ _ _ refl c.in_ok-one.ensures
    (reads_part _ _ _ _ _ _ _ _ _ _ _ _ _ _ refl c.in_ok-other.ensures
    (reads_done _ _ _ _ _ _ refl c.in_ok-leave_counted.ensures.place c.in_ok-leave_counted.ensures.ticks))))
