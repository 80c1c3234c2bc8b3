-- Messages that are put together.
use Rattle.std.proofs.Common.{◌≡◌, ℕ, ℤ, Some, List, [], ◌∷◌, refl}
use Rattle.sha2.specs.Sha256.{sha256}
use Rattle.rpki_base.specs.RpkiSignatureAlgorithm.{RpkiAlgorithm}
use Rattle.rpki_base.specs.Signature.{SignatureParts}
use Rattle.rpki_idcert.specs.IdCert.{CertificateFields}
use Rattle.rpki_sigmsg.specs.Crl.{CrlFields}
use Rattle.rpki_sigmsg.specs.Message.{MessageFields}
use Rattle.rpki_sigmsg.specs.Making.{made_covered, assembled}

pub assembled_is : (content digest covered : List ℕ) (moment : ℤ) (signer : List ℕ) (s : SignatureParts RpkiAlgorithm) (c : CertificateFields) (l : CrlFields) (crls : List CrlFields) → digest ≡ sha256 content → covered ≡ made_covered content moment → signer ≡ c.tbs.subject_key_id → crls ≡ l ∷ []
    → ◌≡◌ {A = MessageFields} (record { content = content; signer = signer; digest = digest; signing_time = Some moment; covered = covered; signature = s; certificate = c; crls = crls }) (assembled (record { content = content; moment = moment }) s c l)
assembled_is content digest covered moment signer s c l crls d k g e = rw (d, k, g, e) refl
