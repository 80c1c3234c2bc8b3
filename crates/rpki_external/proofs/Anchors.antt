-- A finished anchor is believed, and is what is made with a signer.
use Rattle.std.proofs.Common.{◌≡◌, ℕ, ℤ, List, true, refl, sym, ap, subst, ◌∙◌}
use Rattle.std.specs.Prelude.{◌≤ℤ◌}
use Rattle.rpki_base.specs.Civil.{IsMoment}
use Rattle.rpki_base.specs.PublicKey.{KeyFields}
use Rattle.rpki_base.specs.RpkiSignatureAlgorithm.{RpkiAlgorithm}
use Rattle.rpki_base.specs.Scheme.{Relation}
use Rattle.rpki_base.specs.Serial.{serial_of}
use Rattle.rpki_base.specs.SignedData.{SignedParts}
use Rattle.rpki_base.specs.Signature.{SignatureParts}
use Rattle.rpki_base.specs.Validity.{ValidityFields}
use Rattle.rpki_base.specs.declared.algorithm.SigningAlgorithm.TheVariants.{RsaSha256}
use Rattle.rpki_idcert.specs.Checks.{IsTaBelieved}
use Rattle.rpki_idcert.specs.IdCert.{CertificateFields}
use Rattle.rpki_der.specs.declared.mode.Mode.{Mode}
use Rattle.rpki_idcert.specs.Making.{IsIssued, IsReadAgain}
use Rattle.rpki_idcert.specs.Spelling.{spelled_tbs}
use Rattle.rpki_idcert.specs.TbsIdCert.{TbsFields}
use Rattle.rpki_idcert.proofs.Issuing.{anchor_passes, never_itself}
use Rattle.rpki_idcert.proofs.ReadAgain.{made_again}
use Rattle.rpki_signer.specs.Limits.{default_algorithm}
use Rattle.rpki_external.specs.Making.{anchor_fields, finished_anchor, signature_of}

pub anchor_believed : (scheme : Relation) (key : KeyFields) (validity : ValidityFields) (signature : List ℕ) (when : ℤ)
    → validity.not_before ≤ℤ when → when ≤ℤ validity.not_after → IsTaBelieved scheme (finished_anchor key validity signature) when
anchor_believed scheme key validity signature when from to = record {
  signed = λ n. absurd (never_itself (finished_anchor key validity signature) key (serial_of 1) validity refl n);
  passes = anchor_passes (finished_anchor key validity signature) key (serial_of 1) validity when refl from to;
}

-- a certificate with these parts is this one
same_certificate : (c : CertificateFields) (t : TbsFields) (a : RpkiAlgorithm) → c.tbs ≡ t → c.signed.slice ≡ spelled_tbs c.tbs → c.signed.signature.algorithm ≡ a
    → c ≡ record { signed = record { slice = spelled_tbs t; signature = record { algorithm = a; value = c.signed.signature.value } }; tbs = t }
same_certificate c t a fields slice algorithm =
    let octets : c.signed.slice ≡ spelled_tbs t = slice ∙ ap spelled_tbs fields in
    λ i. record { signed = record { slice = octets i; signature = record { algorithm = algorithm i; value = c.signed.signature.value } }; tbs = fields i }

pub anchor_finished : (scheme : Relation) (validity : ValidityFields) (c : CertificateFields) (key : KeyFields) → c.tbs ≡ anchor_fields key validity → IsIssued scheme key c
    → (signature : List ℕ) × scheme RsaSha256 key (spelled_tbs (anchor_fields key validity)) signature × (c ≡ finished_anchor key validity signature)
anchor_finished scheme validity c key fields issued =
    let octets : c.signed.slice ≡ spelled_tbs (anchor_fields key validity) = issued.slice ∙ ap spelled_tbs fields in (
      c.signed.signature.value,
      subst (λ (o : List ℕ). scheme RsaSha256 key o c.signed.signature.value) octets issued.signed,
      same_certificate c (anchor_fields key validity) default_algorithm fields issued.slice issued.algorithm,
    )

-- what is written of it is read again
pub anchor_again : (key : KeyFields) (validity : ValidityFields) (signature : List ℕ) → IsMoment validity.not_before × IsMoment validity.not_after → (u : TbsFields) → u ≡ anchor_fields key validity
    → (s : SignatureParts RpkiAlgorithm) → s ≡ signature_of signature → (mode : Mode) → IsReadAgain mode (record { signed = record { slice = spelled_tbs u; signature = s }; tbs = u })
anchor_again key validity signature moments u fields s is mode =
    made_again mode key key (serial_of 1) validity (record { signed = record { slice = spelled_tbs u; signature = s }; tbs = u }) refl moments.0 moments.1 true fields refl (ap (λ (x : SignatureParts RpkiAlgorithm). x.algorithm) is)
