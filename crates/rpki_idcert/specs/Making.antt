-- How identity certificates are made (RFC 5280, 4.1.2 and 4.2.1).
--
-- `IsMadeFor` is of the fields alone; `IsIssued` of these in DER, with a signature under a key;
-- `IsSignedAs` of that signature as a call of the signer gives it; `IsAnchorMade`, `IsIssuedTo` and
-- `IsEndEntityMade` of a whole certificate, with the signer's state before and behind.
use Rattle.std.specs.Prelude.{◌≡◌, ◌⊎◌, Decides, ℕ, Bool, true, false, Option, None, Some, List, ◌++◌, length}
use Rattle.hex.specs.Hex.{encode_upper}
use Rattle.sha1.specs.Sha1.{sha1}
use Rattle.rpki_der.specs.declared.mode.Mode.{Mode}
use Rattle.rpki_der.specs.Takes.{BeginsAs}
use Rattle.rpki_base.specs.declared.algorithm.SigningAlgorithm.TheVariants.{RsaSha256}
use Rattle.rpki_base.specs.Checks.{IsSigned}
use Rattle.rpki_base.specs.Name.{name_of_text}
use Rattle.rpki_base.specs.PublicKey.{KeyFields}
use Rattle.rpki_base.specs.RpkiSignatureAlgorithm.{spelled_x509}
use Rattle.rpki_base.specs.Scheme.{Relation}
use Rattle.rpki_base.specs.Serial.{serial_of}
use Rattle.rpki_base.specs.SignedData.{spelled_data, CanSpellSigned}
use Rattle.rpki_base.specs.Validity.{ValidityFields}
use Rattle.rpki_common.specs.Causes.{Rose}
use Rattle.rpki_signer.specs.declared.errors.MakeError.{MakeError}
use Rattle.rpki_signer.specs.declared.errors.MakeError.TheVariants as make
use Rattle.rpki_signer.specs.declared.errors.SigningError.TheVariants as signing
use Rattle.rpki_signer.specs.Limits.{IsShort, IsShortSignature, Keeps, StopsInTurn, default_algorithm}
use Rattle.rpki_signer.specs.Serials.{IsSerialDrawn, without_first_bit}
use Rattle.rpki_signer.specs.Signer.{SignerState, HoldsKey, Stays}
use Rattle.rpki_idcert.specs.TbsIdCert.{TbsFields}
use Rattle.rpki_idcert.specs.IdCert.{CertificateFields, identity_certificate}
use Rattle.rpki_idcert.specs.Spelling.{spelled_tbs}

-- ---- the fields

-- the name of a key: its one attribute is commonName, with the key identifier in upper case
-- hexadecimal digits
abbrev pub name_of_key : KeyFields → List ℕ
name_of_key key = name_of_text (encode_upper (sha1 key.bits))

-- the issuing key's own certificate is an authority's (4.2.1.9)
abbrev pub made_basic_ca : Bool → Option Bool
made_basic_ca true = Some true
made_basic_ca false = None

-- the key identifier of the issuing key, in every certificate but that of the issuing key itself
-- (4.2.1.1)
abbrev pub made_authority_key_id : Bool → KeyFields → Option (List ℕ)
made_authority_key_id true issuing = None
made_authority_key_id false issuing = Some (sha1 issuing.bits)

-- what is said of a key, where own says whether it is the issuing key itself
abbrev pub made_fields : Bool → KeyFields → KeyFields → List ℕ → ValidityFields → TbsFields
made_fields own issuing key serial validity = record {
  serial = serial;
  issuer = name_of_key issuing;
  validity = validity;
  subject = name_of_key key;
  key = key;
  basic_ca = made_basic_ca own;
  subject_key_id = sha1 key.bits;
  authority_key_id = made_authority_key_id own issuing;
}

-- the fields are those of a certificate for the key under the issuing key, which may be one
pub record IsMadeFor (issuing key : KeyFields) (serial : List ℕ) (validity : ValidityFields)
    (t : TbsFields) : Type 0 where
  pub own : Bool
  pub decides : Decides own (key ≡ issuing)
  pub is : t ≡ made_fields own issuing key serial validity

-- ---- the certificate

-- the fields in DER, with a signature under the issuing key
pub record IsIssued (scheme : Relation) (issuing : KeyFields) (c : CertificateFields) : Type 0 where
  pub slice : c.signed.slice ≡ spelled_tbs c.tbs
  pub algorithm : c.signed.signature.algorithm ≡ default_algorithm
  pub signed : IsSigned scheme c issuing
  pub short : IsShort c.signed.signature.value

-- These fields in DER, with the signature that the signer's call gives under the identifier.
pub record IsSignedAs {Id : Type 0} (scheme : Relation) (t : TbsFields) (id : Id)
    (before after : SignerState Id) (c : CertificateFields) : Type 0 where
  pub tbs : c.tbs ≡ t
  pub slice : c.signed.slice ≡ spelled_tbs t
  pub algorithm : c.signed.signature.algorithm ≡ default_algorithm
  pub signed : IsShortSignature scheme RsaSha256 id (spelled_tbs t) before after
      c.signed.signature.value

-- A certificate for the signer's key itself, with serial number 1.
pub record IsAnchorMade {Id : Type 0} (scheme : Relation) (id : Id) (validity : ValidityFields)
    (before after : SignerState Id) (c : CertificateFields) : Type 0 where
  pub key : KeyFields
  pub holds : HoldsKey before.keyring id key
  pub short : IsShort key.bits
  pub fields : c.tbs ≡ made_fields true key key (serial_of 1) validity
  pub issued : IsIssued scheme key c
  pub keeps : Keeps before after
  pub no_fault : after.faults ≡ before.faults
  pub drawn : after.drawn ≡ before.drawn

-- A certificate with this serial number for the key, under the signer's key.
pub record IsIssuedTo {Id : Type 0} (scheme : Relation) (key : KeyFields) (serial : List ℕ)
    (id : Id) (validity : ValidityFields) (before after : SignerState Id) (c : CertificateFields)
    : Type 0 where
  pub issuing : KeyFields
  pub holds : HoldsKey before.keyring id issuing
  pub short : IsShort issuing.bits
  pub fields : IsMadeFor issuing key serial validity c.tbs
  pub issued : IsIssued scheme issuing c
  pub stays : Stays before after
  pub no_fault : after.faults ≡ before.faults

-- A certificate for the key, whose serial number the signer drew.
pub record IsEndEntityMade {Id : Type 0} (scheme : Relation) (key : KeyFields) (id : Id)
    (validity : ValidityFields) (before after : SignerState Id) (c : CertificateFields) : Type 0
  where
    pub issuing : KeyFields
    pub holds : HoldsKey before.keyring id issuing
    pub short : IsShort issuing.bits
    pub twenty : length after.random ≡ 20
    pub fields : IsMadeFor issuing key (without_first_bit after.random) validity c.tbs
    pub issued : IsIssued scheme issuing c
    pub keeps : Keeps before after
    pub no_fault : after.faults ≡ before.faults
    pub drawn : after.drawn ≡ before.drawn

-- ---- which refusal was the first

-- the serial number wasn't drawn
pub record RefusesDraw {Id E : Type 0} (before after : SignerState Id) (error : MakeError E)
    : Type 0 where
  pub stays : Stays before after
  pub fault : E
  pub is : error ≡ make.Signing (signing.Signer fault)
  pub told : Rose before.faults after.faults

-- the serial number was drawn, and then the issuing key or the signature wasn't given
pub record StopsBehindDraw {Id E : Type 0} (scheme : Relation) (id : Id)
    (before after : SignerState Id) (error : MakeError E) : Type 0 where
  pub between : SignerState Id
  pub serial : List ℕ
  pub drawn : IsSerialDrawn before between serial
  pub stops : StopsInTurn scheme id between after error

-- an end entity's certificate stops at the draw, at the issuing key or at the signature
abbrev pub StopsAtEndEntity : {Id E : Type 0} → Relation → Id → SignerState Id → SignerState Id
    → MakeError E → Type 0
StopsAtEndEntity scheme id before after error =
    RefusesDraw before after error ⊎ StopsBehindDraw scheme id before after error

-- ---- what is written is read

-- a certificate's octets begin with it, whatever stands behind them
abbrev pub IsReadAgain : Mode → CertificateFields → Type 0
IsReadAgain mode c = (rest : List ℕ) → CanSpellSigned spelled_x509 c.signed
    → BeginsAs (identity_certificate mode) mode (spelled_data spelled_x509 c.signed ++ rest) c
