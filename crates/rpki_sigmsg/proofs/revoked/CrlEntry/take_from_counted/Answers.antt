-- by tools/proofs/answers.py rpki_sigmsg revoked CrlEntry.take_from_counted RevokedCertificates crl_entry enter_counted user_certificate revocation_date '?_extensions' leave_counted
use Rattle.std.proofs.Common.{refl}
use Rattle.rpki_der.proofs.Counting.{reads_done, reads_first, reads_part, refuses_inside, refuses_within, stops_behind, stops_done, stops_first, stops_later, stops_part, takes_err, takes_within}
use Rattle.rpki_sigmsg.specs.RevokedCertificates.{crl_entry}
use Rattle.rpki_sigmsg.proofs.revoked.CrlEntry.take_from_counted.Goals as goal

pub returns-in_err-enter_counted : goal.returns-in_err-enter_counted
unfolding crl_entry
returns-in_err-enter_counted g c = takes_err _ _ _ _ _ _ _ _ _ c.from_residual.ensures.1
    (refuses_within _ _ _ c.args.cursor.now _ _ _ c.in_err-enter_counted.ensures.place c.in_err-enter_counted.ensures.ticks)

pub returns-in_err-user_certificate : goal.returns-in_err-user_certificate
unfolding crl_entry
returns-in_err-user_certificate g c = takes_err _ _ _ _ _ _ _ _ _ c.from_residual-in_err-user_certificate.ensures.1
    (refuses_inside _ _ _ _ _ _ _ _ _ _ refl c.in_ok-enter_counted.ensures.place c.in_ok-enter_counted.ensures.ticks
    (stops_first _ _ _ _ _ _ _ _ refl c.in_err-user_certificate.ensures))

pub returns-in_err-revocation_date : goal.returns-in_err-revocation_date
unfolding crl_entry
returns-in_err-revocation_date g c = takes_err _ _ _ _ _ _ _ _ _ c.from_residual-in_err-revocation_date.ensures.1
    (refuses_inside _ _ _ _ _ _ _ _ _ _ refl c.in_ok-enter_counted.ensures.place c.in_ok-enter_counted.ensures.ticks
    (stops_later _ _ _ _ _ _ _ _ _ _ _ _ refl c.in_ok-user_certificate.ensures
    (stops_first _ _ _ _ _ _ _ _ refl c.in_err-revocation_date.ensures)))

pub returns-in_err-_extensions : goal.returns-in_err-_extensions
unfolding crl_entry
returns-in_err-_extensions g c = takes_err _ _ _ _ _ _ _ _ _ c.from_residual-in_err-_extensions.ensures.1
    (refuses_inside _ _ _ _ _ _ _ _ _ _ refl c.in_ok-enter_counted.ensures.place c.in_ok-enter_counted.ensures.ticks
    (stops_later _ _ _ _ _ _ _ _ _ _ _ _ refl c.in_ok-user_certificate.ensures
    (stops_later _ _ _ _ _ _ _ _ _ _ _ _ refl c.in_ok-revocation_date.ensures
    (stops_part _ _ _ _ _ _ _ _ _ refl c.in_err-_extensions.ensures))))

pub returns-in_err-leave_counted : goal.returns-in_err-leave_counted
unfolding crl_entry
returns-in_err-leave_counted g c = takes_err _ _ _ _ _ _ _ _ _ c.from_residual-in_err-leave_counted.ensures.1
    (refuses_inside _ _ _ _ _ _ _ _ _ _ refl c.in_ok-enter_counted.ensures.place c.in_ok-enter_counted.ensures.ticks
    (stops_later _ _ _ _ _ _ _ _ _ _ _ _ refl c.in_ok-user_certificate.ensures
    (stops_later _ _ _ _ _ _ _ _ _ _ _ _ refl c.in_ok-revocation_date.ensures
    (stops_behind _ _ _ _ _ _ _ _ _ _ _ _ _ refl c.in_ok-_extensions.ensures
    (stops_done _ _ _ _ _ _ c.in_err-leave_counted.ensures.place c.in_err-leave_counted.ensures.refused)))))

pub returns : goal.returns
unfolding crl_entry
returns g c = takes_within _ _ _ _ _ _ _ _ _ _ _ refl c.in_ok-enter_counted.ensures.place c.in_ok-enter_counted.ensures.ticks
    (reads_first _ _ _ _ _ _ _ _ _ _ _ _ _ refl c.in_ok-user_certificate.ensures
    (reads_first _ _ _ _ _ _ _ _ _ _ _ _ _ refl c.in_ok-revocation_date.ensures
    (reads_part _ _ _ _ _ _ _ _ _ _ _ _ _ _ refl c.in_ok-_extensions.ensures
    (reads_done _ _ _ _ _ _ refl c.in_ok-leave_counted.ensures.place c.in_ok-leave_counted.ensures.ticks))))
