-- by tools/proofs/answers.py rpki_sigmsg signer take_signer_infos - wrapped enter_counted signer@rpki_sigmsg.specs.Signer.signer_info=signer_info leave_counted
use Rattle.std.proofs.Common.{refl}
use Rattle.rpki_der.proofs.Counting.{reads_done, reads_first, refuses_inside, refuses_within, stops_done, stops_first, stops_later, takes_err, takes_within}
use Rattle.rpki_der.proofs.Modes.{refuses_in, takes_in}
use Rattle.rpki_der.specs.Grammar.{wrapped}
use Rattle.rpki_sigmsg.specs.Signer.{signer_info}
use Rattle.rpki_sigmsg.proofs.signer.take_signer_infos.Goals as goal

pub returns-in_err-enter_counted : goal.returns-in_err-enter_counted
unfolding wrapped
returns-in_err-enter_counted g c = takes_err _ _ _ _ _ _ _ _ _ c.from_residual.ensures.1
    (refuses_within _ _ _ c.args.cursor.now _ _ _ c.in_err-enter_counted.ensures.place c.in_err-enter_counted.ensures.ticks)

pub returns-in_err-signer : goal.returns-in_err-signer
unfolding wrapped
returns-in_err-signer g c = takes_err _ _ _ _ _ _ _ _ _ c.from_residual-in_err-signer.ensures.1
    (refuses_inside _ _ _ _ _ _ _ _ _ _ refl c.in_ok-enter_counted.ensures.place c.in_ok-enter_counted.ensures.ticks
    (stops_first _ _ _ _ _ _ _ _ refl (refuses_in _ signer_info _ _ _ _ _ c.in_ok-enter_counted.ensures.place.mode c.in_err-signer.ensures)))

pub returns-in_err-leave_counted : goal.returns-in_err-leave_counted
unfolding wrapped
returns-in_err-leave_counted g c = takes_err _ _ _ _ _ _ _ _ _ c.from_residual-in_err-leave_counted.ensures.1
    (refuses_inside _ _ _ _ _ _ _ _ _ _ refl c.in_ok-enter_counted.ensures.place c.in_ok-enter_counted.ensures.ticks
    (stops_later _ _ _ _ _ _ _ _ _ _ _ _ refl (takes_in _ signer_info _ _ _ _ _ _ c.in_ok-enter_counted.ensures.place.mode c.in_ok-signer.ensures)
    (stops_done _ _ _ _ _ _ c.in_err-leave_counted.ensures.place c.in_err-leave_counted.ensures.refused)))

pub returns : goal.returns
unfolding wrapped
returns g c = takes_within _ _ _ _ _ _ _ _ _ _ _ refl c.in_ok-enter_counted.ensures.place c.in_ok-enter_counted.ensures.ticks
    (reads_first _ _ _ _ _ _ _ _ _ _ _ _ _ refl (takes_in _ signer_info _ _ _ _ _ _ c.in_ok-enter_counted.ensures.place.mode c.in_ok-signer.ensures)
    (reads_done _ _ _ _ _ _ refl c.in_ok-leave_counted.ensures.place c.in_ok-leave_counted.ensures.ticks))
