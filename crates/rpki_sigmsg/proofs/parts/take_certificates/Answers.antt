-- by tools/proofs/answers.py rpki_sigmsg parts take_certificates - wrapped enter_counted 'certificate@rpki_der.specs.Held.with_octets+rpki_idcert.specs.IdCert.identity_certificate=(λ m. with_octets
--     (identity_certificate m))' leave_counted
use Rattle.std.proofs.Common.{refl}
use Rattle.rpki_der.proofs.Counting.{reads_done, reads_first, refuses_inside, refuses_within, stops_done, stops_first, stops_later, takes_err, takes_within}
use Rattle.rpki_der.proofs.Modes.{refuses_in, takes_in}
use Rattle.rpki_der.specs.Grammar.{wrapped}
use Rattle.rpki_der.specs.Held.{with_octets}
use Rattle.rpki_idcert.specs.IdCert.{identity_certificate}
use Rattle.rpki_sigmsg.proofs.parts.take_certificates.Goals as goal

pub returns-in_err-enter_counted : goal.returns-in_err-enter_counted
unfolding wrapped
returns-in_err-enter_counted g c = takes_err _ _ _ _ _ _ _ _ _ c.from_residual.ensures.1
    (refuses_within _ _ _ c.args.cursor.now _ _ _ c.in_err-enter_counted.ensures.place c.in_err-enter_counted.ensures.ticks)

pub returns-in_err-certificate : goal.returns-in_err-certificate
unfolding wrapped
returns-in_err-certificate g c = takes_err _ _ _ _ _ _ _ _ _ c.from_residual-in_err-certificate.ensures.1
    (refuses_inside _ _ _ _ _ _ _ _ _ _ refl c.in_ok-enter_counted.ensures.place c.in_ok-enter_counted.ensures.ticks
    (stops_first _ _ _ _ _ _ _ _ refl (refuses_in _ (λ m. with_octets (identity_certificate m)) _ _ _ _ _ c.in_ok-enter_counted.ensures.place.mode c.in_err-certificate.ensures)))

pub returns-in_err-leave_counted : goal.returns-in_err-leave_counted
unfolding wrapped
returns-in_err-leave_counted g c = takes_err _ _ _ _ _ _ _ _ _ c.from_residual-in_err-leave_counted.ensures.1
    (refuses_inside _ _ _ _ _ _ _ _ _ _ refl c.in_ok-enter_counted.ensures.place c.in_ok-enter_counted.ensures.ticks
    (stops_later _ _ _ _ _ _ _ _ _ _ _ _ refl (takes_in _ (λ m. with_octets (identity_certificate m)) _ _ _ _ _ _ c.in_ok-enter_counted.ensures.place.mode c.in_ok-certificate.ensures)
    (stops_done _ _ _ _ _ _ c.in_err-leave_counted.ensures.place c.in_err-leave_counted.ensures.refused)))

pub returns : goal.returns
unfolding wrapped
returns g c = takes_within _ _ _ _ _ _ _ _ _ _ _ refl c.in_ok-enter_counted.ensures.place c.in_ok-enter_counted.ensures.ticks
    (reads_first _ _ _ _ _ _ _ _ _ _ _ _ _ refl (takes_in _ (λ m. with_octets (identity_certificate m)) _ _ _ _ _ _ c.in_ok-enter_counted.ensures.place.mode c.in_ok-certificate.ensures)
    (reads_done _ _ _ _ _ _ refl c.in_ok-leave_counted.ensures.place c.in_ok-leave_counted.ensures.ticks))
