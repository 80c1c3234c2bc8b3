-- by tools/proofs/answers.py rpki_sigmsg reference take_explicit_parts - wrapped enter_counted view@rpki_sigmsg.specs.Message.signed_parts=signed_parts leave_counted
use Rattle.std.proofs.Common.{refl}
use Rattle.rpki_der.proofs.Counting.{reads_done, reads_first, refuses_inside, refuses_within, stops_done, stops_first, stops_later, takes_err, takes_within}
use Rattle.rpki_der.proofs.Modes.{refuses_in, takes_in}
use Rattle.rpki_der.specs.Grammar.{wrapped}
use Rattle.rpki_sigmsg.specs.Message.{signed_parts}
use Rattle.rpki_sigmsg.proofs.reference.take_explicit_parts.Goals as goal

pub returns-in_err-enter_counted : goal.returns-in_err-enter_counted
unfolding wrapped
returns-in_err-enter_counted g c = takes_err _ _ _ _ _ _ _ _ _ c.from_residual.ensures.1
    (refuses_within _ _ _ c.args.cursor.now _ _ _ c.in_err-enter_counted.ensures.place c.in_err-enter_counted.ensures.ticks)

pub returns-in_err-view : goal.returns-in_err-view
unfolding wrapped
returns-in_err-view g c = takes_err _ _ _ _ _ _ _ _ _ c.from_residual-in_err-view.ensures.1
    (refuses_inside _ _ _ _ _ _ _ _ _ _ refl c.in_ok-enter_counted.ensures.place c.in_ok-enter_counted.ensures.ticks
    (stops_first _ _ _ _ _ _ _ _ refl (refuses_in _ signed_parts _ _ _ _ _ c.in_ok-enter_counted.ensures.place.mode c.in_err-view.ensures)))

pub returns-in_err-leave_counted : goal.returns-in_err-leave_counted
unfolding wrapped
returns-in_err-leave_counted g c = takes_err _ _ _ _ _ _ _ _ _ c.from_residual-in_err-leave_counted.ensures.1
    (refuses_inside _ _ _ _ _ _ _ _ _ _ refl c.in_ok-enter_counted.ensures.place c.in_ok-enter_counted.ensures.ticks
    (stops_later _ _ _ _ _ _ _ _ _ _ _ _ refl (takes_in _ signed_parts _ _ _ _ _ _ c.in_ok-enter_counted.ensures.place.mode c.in_ok-view.ensures)
    (stops_done _ _ _ _ _ _ c.in_err-leave_counted.ensures.place c.in_err-leave_counted.ensures.refused)))

pub returns : goal.returns
unfolding wrapped
returns g c = takes_within _ _ _ _ _ _ _ _ _ _ _ refl c.in_ok-enter_counted.ensures.place c.in_ok-enter_counted.ensures.ticks
    (reads_first _ _ _ _ _ _ _ _ _ _ _ _ _ refl (takes_in _ signed_parts _ _ _ _ _ _ c.in_ok-enter_counted.ensures.place.mode c.in_ok-view.ensures)
    (reads_done _ _ _ _ _ _ refl c.in_ok-leave_counted.ensures.place c.in_ok-leave_counted.ensures.ticks))
