-- by tools/proofs/answers.py rpki_sigmsg crl_extensions take_issuer_key CrlExtensions issuer_key+wrapped enter_counted
--     'key@rpki_base.specs.KeyIdentifier.key_identifier_under+rpki_der.specs.Tags.context=(key_identifier_under (context 0))' leave_counted
use Rattle.std.proofs.Common.{refl}
use Rattle.rpki_base.specs.KeyIdentifier.{key_identifier_under}
use Rattle.rpki_der.proofs.Counting.{reads_done, reads_first, refuses_inside, refuses_within, stops_done, stops_first, stops_later, takes_err, takes_within}
use Rattle.rpki_der.proofs.Modes.{refuses_in, takes_in}
use Rattle.rpki_der.specs.Grammar.{wrapped}
use Rattle.rpki_der.specs.Tags.{context}
use Rattle.rpki_sigmsg.specs.CrlExtensions.{issuer_key}
use Rattle.rpki_sigmsg.proofs.crl_extensions.take_issuer_key.Goals as goal

pub returns-in_err-enter_counted : goal.returns-in_err-enter_counted
unfolding issuer_key wrapped
returns-in_err-enter_counted g c = takes_err _ _ _ _ _ _ _ _ _ c.from_residual.ensures.1
    (refuses_within _ _ _ c.args.cursor.now _ _ _ c.in_err-enter_counted.ensures.place c.in_err-enter_counted.ensures.ticks)

pub returns-in_err-key : goal.returns-in_err-key
unfolding issuer_key wrapped
returns-in_err-key g c = takes_err _ _ _ _ _ _ _ _ _ c.from_residual-in_err-key.ensures.1
    (refuses_inside _ _ _ _ _ _ _ _ _ _ refl c.in_ok-enter_counted.ensures.place c.in_ok-enter_counted.ensures.ticks
    (stops_first _ _ _ _ _ _ _ _ refl (refuses_in _ (key_identifier_under (context 0)) _ _ _ _ _ c.in_ok-enter_counted.ensures.place.mode c.in_err-key.ensures)))

pub returns-in_err-leave_counted : goal.returns-in_err-leave_counted
unfolding issuer_key wrapped
returns-in_err-leave_counted g c = takes_err _ _ _ _ _ _ _ _ _ c.from_residual-in_err-leave_counted.ensures.1
    (refuses_inside _ _ _ _ _ _ _ _ _ _ refl c.in_ok-enter_counted.ensures.place c.in_ok-enter_counted.ensures.ticks
    (stops_later _ _ _ _ _ _ _ _ _ _ _ _ refl (takes_in _ (key_identifier_under (context 0)) _ _ _ _ _ _ c.in_ok-enter_counted.ensures.place.mode c.in_ok-key.ensures)
    (stops_done _ _ _ _ _ _ c.in_err-leave_counted.ensures.place c.in_err-leave_counted.ensures.refused)))

pub returns : goal.returns
unfolding issuer_key wrapped
returns g c = takes_within _ _ _ _ _ _ _ _ _ _ _ refl c.in_ok-enter_counted.ensures.place c.in_ok-enter_counted.ensures.ticks
    (reads_first _ _ _ _ _ _ _ _ _ _ _ _ _ refl (takes_in _ (key_identifier_under (context 0)) _ _ _ _ _ _ c.in_ok-enter_counted.ensures.place.mode c.in_ok-key.ensures)
    (reads_done _ _ _ _ _ _ refl c.in_ok-leave_counted.ensures.place c.in_ok-leave_counted.ensures.ticks))
