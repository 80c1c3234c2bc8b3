-- by tools/proofs/answers.py rpki_cert cert take_signed_key Cert rpki_base.specs.SignedData.signed_as enter_counted key@rpki_cert.specs.Cert.tbs_certificate=tbs_certificate
--     '&1_signature@rpki_base.specs.SignedData.signature_in+rpki_der.specs.Whole.whole_of+rpki_base.specs.RpkiSignatureAlgorithm.x509_algorithm=(signature_in (whole_of x509_algorithm))'
use Rattle.std.proofs.Common.{refl, ◌∙◌}
use Rattle.rpki_base.specs.RpkiSignatureAlgorithm.{x509_algorithm}
use Rattle.rpki_base.specs.SignedData.{signature_in, signed_as}
use Rattle.rpki_cert.specs.Cert.{tbs_certificate}
use Rattle.rpki_der.proofs.Counting.{reads_first, refuses_inside, refuses_within, stops_first, stops_later, takes_err, takes_within}
use Rattle.rpki_der.proofs.Leftovers.{reads_bind, reads_slower, stops_bind, stops_slower}
use Rattle.rpki_der.proofs.Modes.{reads_in, refuses_in, stops_in, takes_in}
use Rattle.rpki_der.specs.Whole.{whole_of}
use Rattle.rpki_cert.proofs.cert.take_signed_key.Goals as goal

pub returns-in_err-enter_counted : goal.returns-in_err-enter_counted
unfolding signed_as
returns-in_err-enter_counted g c = takes_err _ _ _ _ _ _ _ _ _ c.from_residual.ensures.1
    (refuses_within _ _ _ c.args.cursor.now _ _ _ c.in_err-enter_counted.ensures.place c.in_err-enter_counted.ensures.ticks)

pub returns-in_err-key : goal.returns-in_err-key
unfolding signed_as
returns-in_err-key g c = takes_err _ _ _ _ _ _ _ _ _ c.from_residual-in_err-key.ensures.1
    (refuses_inside _ _ _ _ _ _ _ _ _ _ refl c.in_ok-enter_counted.ensures.place c.in_ok-enter_counted.ensures.ticks
    (stops_first _ _ _ _ _ _ _ _ refl (refuses_in _ tbs_certificate _ _ _ _ _ c.in_ok-enter_counted.ensures.place.mode c.in_err-key.ensures)))

pub returns-in_err-_signature : goal.returns-in_err-_signature
unfolding signed_as
returns-in_err-_signature g c = takes_err _ _ _ _ _ _ _ _ _ c.from_residual-in_err-_signature.ensures.1
    (refuses_inside _ _ _ _ _ _ _ _ _ _ refl c.in_ok-enter_counted.ensures.place c.in_ok-enter_counted.ensures.ticks
    (stops_later _ _ _ _ _ _ _ _ _ _ _ _ refl (takes_in _ tbs_certificate _ _ _ _ _ _ c.in_ok-enter_counted.ensures.place.mode c.in_ok-key.ensures)
    (stops_bind _ _ _ _ _ _ _ _
    (stops_slower _ 1 _ _ _ _ _ _ refl
    (stops_in _ _ (signature_in (whole_of x509_algorithm)) _ _ _ _ _ (c.in_ok-key.ensures.takes.mode ∙ c.in_ok-enter_counted.ensures.place.mode) c.in_err-_signature.ensures)))))

pub returns : goal.returns
unfolding signed_as
returns g c = takes_within _ _ _ _ _ _ _ _ _ _ _ refl c.in_ok-enter_counted.ensures.place c.in_ok-enter_counted.ensures.ticks
    (reads_first _ _ _ _ _ _ _ _ _ _ _ _ _ refl (takes_in _ tbs_certificate _ _ _ _ _ _ c.in_ok-enter_counted.ensures.place.mode c.in_ok-key.ensures)
    (reads_bind _ _ _ _ _ _ _ _ _ _
    (reads_slower _ 1 _ _ _ _ _ _ _ refl
    (reads_in _ _ (signature_in (whole_of x509_algorithm)) _ _ _ _ _ _ (c.in_ok-key.ensures.takes.mode ∙ c.in_ok-enter_counted.ensures.place.mode) c.in_ok-_signature.ensures)) refl))
