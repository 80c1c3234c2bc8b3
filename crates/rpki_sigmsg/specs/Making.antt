-- How signed messages are made (RFC 5652, 5.4 and 11; RFC 5280, 5.1; RFC 6492, 3.1).
use Rattle.std.specs.Prelude.{false, ◌≡◌, ◌≢◌, ◌≤ℤ◌, ◌≤◌, ◌<◌, ◌^◌, ◌*◌, ◌⊎◌, ⊤, ℕ, ℤ, pos, ◌+ℤ◌, ◌-ℤ◌, unsigned_abs, Some, List, [], ◌∷◌, ◌++◌, length}
use Rattle.sha1.specs.Sha1.{sha1}
use Rattle.sha2.specs.Sha256.{sha256}
use Rattle.rpki_common.specs.Causes.{Rose}
use Rattle.rpki_common.specs.Limits.{most_content, window_seconds}
use Rattle.rpki_der.specs.Tags.{sequence, set, oid_tag, octet_string_tag}
use Rattle.rpki_der.specs.Writing.{der_primitive, der_constructed}
use Rattle.rpki_base.specs.declared.algorithm.SigningAlgorithm.TheVariants.{RsaSha256}
use Rattle.rpki_base.specs.Checks.{IsSigned}
use Rattle.rpki_base.specs.PublicKey.{KeyFields}
use Rattle.rpki_base.specs.RpkiSignatureAlgorithm.{RpkiAlgorithm}
use Rattle.rpki_base.specs.Signature.{SignatureParts}
use Rattle.rpki_base.specs.Scheme.{Relation}
use Rattle.rpki_base.specs.Serial.{serial_of}
use Rattle.rpki_base.specs.TimeText.{der_time}
use Rattle.rpki_base.specs.Validity.{ValidityFields}
use Rattle.rpki_signer.specs.declared.errors.SigningError.TheVariants as signing
use Rattle.rpki_signer.specs.Limits.{default_algorithm, IsShort, IsShortSignature, Keeps}
use Rattle.rpki_signer.specs.Serials.{without_first_bit}
use Rattle.rpki_signer.specs.Signer.{SignerState, HoldsKey, SigningFails}
use Rattle.rpki_idcert.specs.IdCert.{CertificateFields}
use Rattle.rpki_idcert.specs.Making.{name_of_key, made_fields, IsMadeFor, IsIssued}
use Rattle.rpki_idcert.specs.Spelling.{spelled_tbs}
use Rattle.rpki_idcert.specs.TbsIdCert.{TbsFields}
use Rattle.rpki_sigmsg.specs.declared.create_error.CreateError.{CreateError}
use Rattle.rpki_sigmsg.specs.declared.create_error.CreateError.TheVariants as create
use Rattle.rpki_sigmsg.specs.Attributes.{covered}
use Rattle.rpki_sigmsg.specs.Crl.{CrlFields}
use Rattle.rpki_sigmsg.specs.Message.{MessageFields}
use Rattle.rpki_sigmsg.specs.ObjectIdentifiers.{content_type, message_digest, signing_time, xml_content}
use Rattle.rpki_sigmsg.specs.RevokedCertificates.{none_revoked}
use Rattle.rpki_sigmsg.specs.Spelling.{spelled_tbs_crl}
use Rattle.rpki_sigmsg.specs.TbsCrl.{TbsCrlFields}

-- ---- the moment

-- the window of a moment: from 300 seconds before it to 300 seconds after it
abbrev pub window : ℤ → ValidityFields
window when = record {
  not_before = when -ℤ pos window_seconds;
  not_after = when +ℤ pos window_seconds;
}

-- the window of the moment begins in 1970 or later, and ends in the year 9999 or before
pub record HasWindow (when : ℤ) : Type 0 where
  pub first : pos 0 ≤ℤ (when -ℤ pos window_seconds)
  pub last : (when +ℤ pos window_seconds) ≤ℤ pos 253402300799

-- ---- what is signed

-- an attribute in DER: a SEQUENCE of its type, an OBJECT IDENTIFIER, and the SET that holds its
-- value (RFC 5652, 5.3)
unfoldable pub spelled_attribute : List ℕ → List ℕ → List ℕ
spelled_attribute identifier value =
    der_constructed sequence (der_primitive oid_tag identifier ++ der_constructed set value)

-- contentType, signingTime, messageDigest (11.1 to 11.3)
abbrev pub made_attributes : List ℕ → ℤ → List ℕ
made_attributes digest when =
    spelled_attribute content_type (der_primitive oid_tag xml_content)
    ++ (spelled_attribute signing_time (der_time when)
    ++ spelled_attribute message_digest (der_primitive octet_string_tag digest))

-- of a content and a moment
unfoldable pub made_covered : List ℕ → ℤ → List ℕ
made_covered content when = covered (made_attributes (sha256 content) when)

-- a CRL of the issuing key without entries, whose number is the moment in thousandths of a second
abbrev pub made_crl : KeyFields → ℤ → TbsCrlFields
made_crl issuing when = record {
  algorithm = default_algorithm;
  issuer = name_of_key issuing;
  this_update = (window when).not_before;
  next_update = (window when).not_after;
  revoked = none_revoked;
  authority_key_id = Some (sha1 issuing.bits);
  crl_number = Some (serial_of (unsigned_abs when * 1000));
}

-- the fields in DER, with a signature under the issuing key
pub record IsCrlMade (scheme : Relation) (issuing : KeyFields) (when : ℤ) (c : CrlFields) : Type 0
  where
    pub fields : c.tbs ≡ made_crl issuing when
    pub slice : c.signed.slice ≡ spelled_tbs_crl c.tbs
    pub algorithm : c.signed.signature.algorithm ≡ default_algorithm
    pub signed : IsSigned scheme c issuing

-- The CRL's fields in DER, with the signature that the signer's call gives under the identifier.
pub record IsCrlSigned {Id : Type 0} (scheme : Relation) (issuing : KeyFields) (when : ℤ) (id : Id)
    (before after : SignerState Id) (c : CrlFields) : Type 0 where
  pub fields : c.tbs ≡ made_crl issuing when
  pub slice : c.signed.slice ≡ spelled_tbs_crl c.tbs
  pub algorithm : c.signed.signature.algorithm ≡ default_algorithm
  pub signed : IsShortSignature scheme RsaSha256 id (spelled_tbs_crl c.tbs) before after
      c.signed.signature.value

-- the CRL of the issuing key, and the certificate that it issues for this key with the serial
-- number that was drawn
pub record IsCertified {Id : Type 0} (scheme : Relation) (issuing key : KeyFields) (when : ℤ)
    (before after : SignerState Id) (crl : CrlFields) (certificate : CertificateFields) : Type 0
  where
    pub crl_made : IsCrlMade scheme issuing when crl
    pub twenty : length after.random ≡ 20
    pub fields : IsMadeFor issuing key (without_first_bit after.random) (window when)
        certificate.tbs
    pub issued : IsIssued scheme issuing certificate
    pub keeps : Keeps before after
    pub no_fault : after.faults ≡ before.faults
    pub drawn : after.drawn ≡ before.drawn
    pub short : IsShort crl.signed.signature.value

-- a content, and the moment at which it is signed
pub record ContentFields : Type 0 where
  pub content : List ℕ
  pub moment : ℤ

-- ---- the message

-- of a content with the signature of its attributes, a certificate and a CRL
abbrev pub assembled : ContentFields → SignatureParts RpkiAlgorithm → CertificateFields → CrlFields
    → MessageFields
assembled c signature certificate crl = record {
  content = c.content;
  signer = certificate.tbs.subject_key_id;
  digest = sha256 c.content;
  signing_time = Some c.moment;
  covered = made_covered c.content c.moment;
  signature = signature;
  certificate = certificate;
  crls = crl ∷ [];
}

-- what is to be signed of it
pub record UnsignedFields : Type 0 where
  pub content : ContentFields
  pub crl : TbsCrlFields
  pub certificate : TbsFields

-- what is to be signed is this content at this moment, the issuing key's CRL, and a certificate
-- that it issues for the key with this serial number, valid in the moment's window
pub record IsUnsignedFor (content : List ℕ) (when : ℤ) (serial : List ℕ) (key issuing : KeyFields)
    (u : UnsignedFields) : Type 0 where
  pub content_is : u.content ≡ record { content = content; moment = when }
  pub crl : u.crl ≡ made_crl issuing when
  pub certificate : IsMadeFor issuing key serial (window when) u.certificate

-- the message of what is to be signed, with the three signatures
abbrev pub signed_message_of : UnsignedFields → SignatureParts RpkiAlgorithm
    → SignatureParts RpkiAlgorithm → SignatureParts RpkiAlgorithm → MessageFields
signed_message_of u attributes crl certificate = assembled u.content attributes
    (record {
      signed = record { slice = spelled_tbs u.certificate; signature = certificate };
      tbs = u.certificate;
    })
    (record { signed = record { slice = spelled_tbs_crl u.crl; signature = crl }; tbs = u.crl })

-- The message has this content, says this moment as the time of signing, and is signed under this
-- key; the issuing key issued a certificate for that key, and a CRL.
pub record IsMessageMade (scheme : Relation) (content : List ℕ) (when : ℤ)
    (issuing key : KeyFields) (serial : List ℕ) (m : MessageFields) : Type 0 where
  pub signature : SignatureParts RpkiAlgorithm
  pub certificate : CertificateFields
  pub crl : CrlFields
  pub is : m ≡ assembled (record { content = content; moment = when }) signature certificate crl
  pub algorithm : signature.algorithm ≡ default_algorithm
  pub signed : scheme RsaSha256 key (made_covered content when) signature.value
  pub fields : certificate.tbs ≡ made_fields false issuing key serial (window when)
  pub issued : IsIssued scheme issuing certificate
  pub crl_made : IsCrlMade scheme issuing when crl

-- The signer holds the issuing key alone under this identifier. The key for this one use is the one
-- that it drew, and not the issuing key; the serial number is what it drew last. The keys and the
-- signatures have at most 2^16 octets each; that of the certificate's signature is in `IsIssued`.
pub record IsMessageCreated {Id : Type 0} (scheme : Relation) (content : List ℕ) (when : ℤ)
    (id : Id) (before after : SignerState Id) (m : MessageFields) : Type 0 where
  pub window_is : HasWindow when
  pub issuing : KeyFields
  pub holds : HoldsKey before.keyring id issuing
  pub only : (other : KeyFields) → HoldsKey before.keyring id other → other ≡ issuing
  pub key : KeyFields
  pub drawn : after.drawn ≡ Some key
  pub other : key ≢ issuing
  pub twenty : length after.random ≡ 20
  pub made : IsMessageMade scheme content when issuing key (without_first_bit after.random) m
  pub short_key : IsShort key.bits
  pub short_issuing : IsShort issuing.bits
  pub short_signature : IsShort made.signature.value
  pub short_crl : IsShort made.crl.signed.signature.value

-- ---- why nothing is created

-- the key that the signer gave for one use is the issuing key, the only one under its identifier,
-- and it told so by its count
pub record IsReused {Id : Type 0} (id : Id) (before after : SignerState Id) : Type 0 where
  pub issuing : KeyFields
  pub holds : HoldsKey before.keyring id issuing
  pub only : (other : KeyFields) → HoldsKey before.keyring id other → other ≡ issuing
  pub drawn : after.drawn ≡ Some issuing
  pub told : Rose before.reused after.reused

-- the content is too long, or a key or a signature was, and the signer told so by its count
abbrev pub IsTooLong : {Id : Type 0} → List ℕ → SignerState Id → SignerState Id → Type 0
IsTooLong content before after =
    (most_content < length content)
    ⊎ ((length content ≤ most_content) × Rose before.overlong after.overlong)

-- of want of memory nothing is said, and no refusal of the signer stands for it
abbrev pub CreateFails : {Id E : Type 0} → List ℕ → ℤ → Id → SignerState Id → SignerState Id
    → CreateError E → Type 0
CreateFails content when id before after create.Moment = HasWindow when → ⊥
CreateFails content when id before after create.TooLong =
    HasWindow when × IsTooLong content before after
CreateFails content when id before after create.KeyReused =
    HasWindow when × IsReused id before after
CreateFails content when id before after (create.Signing error) =
    HasWindow when × (error ≢ signing.OutOfMemory) × SigningFails RsaSha256 id before after error
CreateFails content when id before after create.OutOfMemory = ⊤
