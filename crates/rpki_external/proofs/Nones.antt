-- Octets that begin with no certificate, or with no request.
use Rattle.std.proofs.Common.{◌≡◌, ℕ, List, sym, ◌∙◌, subst}
use Rattle.rpki_base.specs.RpkiSignatureAlgorithm.{x509_algorithm}
use Rattle.rpki_cert.specs.Csr.{certification_request}
use Rattle.rpki_cert.specs.CsrAttributes.{ca_attributes}
use Rattle.rpki_cert.specs.Making.{CaRequest}
use Rattle.rpki_common.proofs.Truths.{none_some}
use Rattle.rpki_der.specs.declared.error.DecodeError.{DecodeError}
use Rattle.rpki_der.specs.declared.error.DecodeError.TheVariants as der
use Rattle.rpki_der.specs.declared.mode.Mode.TheVariants.{Der}
use Rattle.rpki_der.specs.Takes.{RefusesOctets}
use Rattle.rpki_der.specs.Whole.{whole_of}
use Rattle.rpki_idcert.specs.IdCert.{CertificateFields, identity_certificate}
use Rattle.rpki_setup.specs.Answers.{BeginsCertificate}
use Rattle.rpki_external.specs.Verifying.{BeginsRequest}

malformed_certificate : (octets : List ℕ) → RefusesOctets (identity_certificate Der) Der octets der.Malformed → (c : CertificateFields) → BeginsCertificate octets c → ⊥
unfolding RefusesOctets
malformed_certificate octets refused c b = none_some c (sym (refused b.value b.rest b.begins) ∙ b.reads)

pub no_certificate_begins : (octets : List ℕ) (e : DecodeError) → e ≡ der.Malformed → RefusesOctets (identity_certificate Der) Der octets e → (c : CertificateFields) → BeginsCertificate octets c → ⊥
no_certificate_begins octets e is refused = malformed_certificate octets (subst (λ (x : DecodeError). RefusesOctets (identity_certificate Der) Der octets x) is refused)

malformed_request : (octets : List ℕ) → RefusesOctets (certification_request ca_attributes (whole_of x509_algorithm) Der) Der octets der.Malformed → (r : CaRequest) → BeginsRequest octets r → ⊥
unfolding RefusesOctets
malformed_request octets refused r b = none_some r (sym (refused b.value b.rest b.begins) ∙ b.reads)

pub no_request_begins : (octets : List ℕ) (e : DecodeError) → e ≡ der.Malformed → RefusesOctets (certification_request ca_attributes (whole_of x509_algorithm) Der) Der octets e → (r : CaRequest) → BeginsRequest octets r → ⊥
no_request_begins octets e is refused = malformed_request octets (subst (λ (x : DecodeError). RefusesOctets (certification_request ca_attributes (whole_of x509_algorithm) Der) Der octets x) is refused)
