-- What is finished is what is made with a signer, and is believed.
use Rattle.std.proofs.Common.{◌≡◌, ap, subst, ◌∙◌, ℕ, ℤ, List, ◌++◌, refl, arith}
use Rattle.std.proofs.lemmas.Int.{ints}
use Rattle.rpki_base.specs.RpkiSignatureAlgorithm.{RpkiAlgorithm}
use Rattle.rpki_base.specs.Scheme.{Relation}
use Rattle.rpki_base.specs.Signature.{SignatureParts}
use Rattle.rpki_base.specs.declared.algorithm.SigningAlgorithm.TheVariants.{RsaSha256}
use Rattle.rpki_idcert.specs.IdCert.{CertificateFields}
use Rattle.rpki_idcert.specs.Spelling.{spelled_tbs}
use Rattle.rpki_idcert.specs.TbsIdCert.{TbsFields}
use Rattle.rpki_sigmsg.specs.Checks.{IsBelieved}
use Rattle.rpki_sigmsg.specs.Crl.{CrlFields}
use Rattle.rpki_sigmsg.specs.Making.{ContentFields, HasWindow, IsMessageMade, assembled}
use Rattle.rpki_sigmsg.specs.Message.{MessageFields, signed_message}
use Rattle.rpki_sigmsg.specs.Spelling.{CanSpellMessage, rewritten, spelled_tbs_crl}
use Rattle.rpki_sigmsg.specs.TbsCrl.{TbsCrlFields}
use Rattle.rpki_signer.specs.Limits.{default_algorithm}
use Rattle.rpki_der.specs.declared.mode.Mode.{Mode}
use Rattle.rpki_der.specs.Takes.{BeginsAs}
use Rattle.rpki_sigmsg.proofs.Again.{begins_again}
use Rattle.rpki_sigmsg.proofs.MadeMessages.{AreMoments, made_believed, made_held}
use Rattle.rpki_external.specs.declared.preparing.Plan.{Plan}
use Rattle.rpki_external.specs.declared.preparing.Signatures.{Signatures}
use Rattle.rpki_external.specs.Making.{AreShort, AreSignatures, CanPrepare, IsInWindow, finished, signature_of, unsigned}

-- the certificate and the CRL of a finished message are issued, where the signatures hold
pub finished_made : (scheme : Relation) (content : List ℕ) (p : Plan) (s : Signatures) → AreShort s → AreSignatures scheme content p s
    → IsMessageMade scheme content p.when p.issuing_key p.key p.serial (finished content p s)
finished_made scheme content p s short signed = record {
  signature = signature_of s.attributes;
  certificate = (finished content p s).certificate;
  crl = record { signed = record { slice = _; signature = signature_of s.crl }; tbs = (unsigned content p).crl };
  is = refl;
  algorithm = refl;
  signed = signed.attributes;
  fields = refl;
  issued = record { slice = refl; algorithm = refl; signed = signed.certificate; short = short.certificate };
  crl_made = record { fields = refl; slice = refl; algorithm = refl; signed = signed.crl };
}

pub finished_believed : (scheme : Relation) (content : List ℕ) (p : Plan) (s : Signatures) (when : ℤ) → CanPrepare content p → AreShort s
    → AreSignatures scheme content p s → IsInWindow p when → IsBelieved scheme (finished content p s) p.issuing_key when
finished_believed scheme content p s when can short signed within =
    made_believed scheme content p.when p.issuing_key p.key p.serial (finished content p s) (finished_made scheme content p s short signed) when within.from within.to

-- ---- it is read again

moments : (z : ℤ) → HasWindow z → AreMoments z
moments z w = record {
  now' = omega (arith, ints, w.first, w.last);
  first = omega (arith, ints, w.first, w.last);
  last = omega (arith, ints, w.first, w.last);
}

-- under whichever scheme
any_scheme : Relation
any_scheme kind key message signature = Unit {0}

pub finished_again : (content : List ℕ) (p : Plan) (s : Signatures) → CanPrepare content p → AreShort s → (mode : Mode) (rest : List ℕ) → CanSpellMessage (finished content p s)
    → BeginsAs (signed_message mode) mode (rewritten (finished content p s) ++ rest) (finished content p s)
unfolding any_scheme
finished_again content p s can short mode rest spelled =
    let made = finished_made any_scheme content p s short (record { attributes = tt; crl = tt; certificate = tt }) in
    begins_again mode (finished content p s) rest (made_held mode any_scheme content p.when p.issuing_key p.key p.serial (finished content p s) made (moments p.when can.window_is) can.twenty spelled) spelled

-- ---- what is made with a signer is what is finished

signature_is : (s : SignatureParts RpkiAlgorithm) → s.algorithm ≡ default_algorithm → s ≡ signature_of s.value
signature_is s e = ap with_algorithm e
  where
    with_algorithm : RpkiAlgorithm → SignatureParts RpkiAlgorithm
    with_algorithm a = record { algorithm = a; value = s.value }

abbrev certificate_with : List ℕ → SignatureParts RpkiAlgorithm → TbsFields → CertificateFields
certificate_with slice signature tbs = record { signed = record { slice = slice; signature = signature }; tbs = tbs }

certificate_is : (c : CertificateFields) (t : TbsFields) → c.tbs ≡ t → c.signed.slice ≡ spelled_tbs c.tbs → c.signed.signature.algorithm ≡ default_algorithm
    → c ≡ certificate_with (spelled_tbs t) (signature_of c.signed.signature.value) t
certificate_is c t e slice algorithm =
    ap (λ (o : List ℕ). certificate_with o c.signed.signature c.tbs) (slice ∙ ap spelled_tbs e)
    ∙ ap (λ (s : SignatureParts RpkiAlgorithm). certificate_with (spelled_tbs t) s c.tbs) (signature_is c.signed.signature algorithm)
    ∙ ap (λ (f : TbsFields). certificate_with (spelled_tbs t) (signature_of c.signed.signature.value) f) e

abbrev crl_with : List ℕ → SignatureParts RpkiAlgorithm → TbsCrlFields → CrlFields
crl_with slice signature tbs = record { signed = record { slice = slice; signature = signature }; tbs = tbs }

crl_is : (c : CrlFields) (t : TbsCrlFields) → c.tbs ≡ t → c.signed.slice ≡ spelled_tbs_crl c.tbs → c.signed.signature.algorithm ≡ default_algorithm
    → c ≡ crl_with (spelled_tbs_crl t) (signature_of c.signed.signature.value) t
crl_is c t e slice algorithm =
    ap (λ (o : List ℕ). crl_with o c.signed.signature c.tbs) (slice ∙ ap spelled_tbs_crl e)
    ∙ ap (λ (s : SignatureParts RpkiAlgorithm). crl_with (spelled_tbs_crl t) s c.tbs) (signature_is c.signed.signature algorithm)
    ∙ ap (λ (f : TbsCrlFields). crl_with (spelled_tbs_crl t) (signature_of c.signed.signature.value) f) e

-- the signatures of a message that was made
abbrev given : {scheme : Relation} {content : List ℕ} {p : Plan} {m : MessageFields} → IsMessageMade scheme content p.when p.issuing_key p.key p.serial m → Signatures
given made = record {
  attributes = made.signature.value;
  crl = made.crl.signed.signature.value;
  certificate = made.certificate.signed.signature.value;
}

pub made_finished : (scheme : Relation) (content : List ℕ) (p : Plan) (m : MessageFields) → IsMessageMade scheme content p.when p.issuing_key p.key p.serial m
    → (signatures : Signatures) × AreSignatures scheme content p signatures × (m ≡ finished content p signatures)
made_finished scheme content p m made =
    let c = certificate_is made.certificate (unsigned content p).certificate made.fields made.issued.slice made.issued.algorithm in
    let l = crl_is made.crl (unsigned content p).crl made.crl_made.fields made.crl_made.slice made.crl_made.algorithm in
    let s = signature_is made.signature made.algorithm in
    let of : ContentFields = (unsigned content p).content in (
      given made,
      record {
        attributes = made.signed;
        crl = subst (λ (o : List ℕ). scheme RsaSha256 p.issuing_key o made.crl.signed.signature.value) (made.crl_made.slice ∙ ap spelled_tbs_crl made.crl_made.fields) made.crl_made.signed;
        certificate = subst (λ (o : List ℕ). scheme RsaSha256 p.issuing_key o made.certificate.signed.signature.value) (made.issued.slice ∙ ap spelled_tbs made.fields) made.issued.signed;
      },
      made.is
          ∙ ap (λ (x : SignatureParts RpkiAlgorithm). assembled of x made.certificate made.crl) s
          ∙ ap (λ (x : CertificateFields). assembled of (signature_of made.signature.value) x made.crl) c
          ∙ ap (λ (x : CrlFields). assembled of (signature_of made.signature.value) (certificate_with (spelled_tbs (unsigned content p).certificate) (signature_of made.certificate.signed.signature.value) (unsigned content p).certificate) x) l,
    )
