-- How the fields of an identity certificate are written in DER (RFC 5280, 4.1.2; X.690, 10 and 11).
use Rattle.std.specs.Prelude.{◌≡◌, ⊤, ℕ, ◌^◌, ◌<◌, Bool, true, false, Option, None, Some, List, [], ◌∷◌, ◌++◌, length}
use Rattle.rpki_der.specs.Tags.{sequence, context, oid_tag, boolean_tag, integer_tag, octet_string_tag}
use Rattle.rpki_der.specs.Writing.{der_primitive, der_constructed}
use Rattle.rpki_der.specs.declared.mode.Mode.{Mode}
use Rattle.rpki_der.specs.Whole.{IsWhole}
use Rattle.rpki_base.specs.Civil.{IsMoment}
use Rattle.rpki_base.specs.Name.{name}
use Rattle.rpki_base.specs.ObjectIdentifiers as names
use Rattle.rpki_base.specs.PublicKey.{spelled_key}
use Rattle.rpki_base.specs.AlgorithmIdentifier.{spelled_identifier}
use Rattle.rpki_base.specs.Serial.{der_serial}
use Rattle.rpki_base.specs.TimeText.{der_time}
use Rattle.rpki_base.specs.Validity.{ValidityFields}
use Rattle.rpki_idcert.specs.TbsIdCert.{TbsFields}

-- a flag, which is written only where it is true, since FALSE is its default (X.690, 11.5)
abbrev pub critical_flag : Bool → List ℕ
critical_flag true = der_primitive boolean_tag (255 ∷ [])
critical_flag false = []

-- an extension: its object identifier, its criticality, and its value in an OCTET STRING (RFC 5280,
-- 4.1)
abbrev pub spelled_extension : List ℕ → Bool → List ℕ → List ℕ
spelled_extension identifier critical value =
    der_constructed sequence (der_primitive oid_tag identifier
    ++ (critical_flag critical ++ der_primitive octet_string_tag value))

-- BasicConstraints: a SEQUENCE of TRUE, or an empty one
abbrev pub authority_flag : Bool → List ℕ
authority_flag ca = der_constructed sequence (critical_flag ca)

-- basicConstraints, critical, if it is there (RFC 5280, 4.2.1.9)
abbrev pub spelled_constraints : Option Bool → List ℕ
spelled_constraints None = []
spelled_constraints (Some ca) = spelled_extension names.basic_constraints true (authority_flag ca)

-- subjectKeyIdentifier, not critical (RFC 5280, 4.2.1.2)
abbrev pub spelled_subject_key : List ℕ → List ℕ
spelled_subject_key identifier =
    spelled_extension names.subject_key_identifier false (der_primitive octet_string_tag identifier)

-- authorityKeyIdentifier with the key identifier under [0], not critical, if it is there (RFC 5280,
-- 4.2.1.1)
abbrev pub spelled_authority_key : Option (List ℕ) → List ℕ
spelled_authority_key None = []
spelled_authority_key (Some identifier) =
    spelled_extension names.authority_key_identifier false
    (der_constructed sequence (der_primitive (context 0) identifier))

-- the extensions in turn: basicConstraints, subjectKeyIdentifier and authorityKeyIdentifier
abbrev pub spelled_extensions : TbsFields → List ℕ
spelled_extensions t = spelled_constraints t.basic_ca
    ++ (spelled_subject_key t.subject_key_id ++ spelled_authority_key t.authority_key_id)

-- Validity: a SEQUENCE of notBefore and notAfter (RFC 5280, 4.1.2.5)
abbrev pub spelled_validity : ValidityFields → List ℕ
spelled_validity v = der_constructed sequence (der_time v.not_before ++ der_time v.not_after)

-- version 3, which is the INTEGER 2, under [0] (RFC 5280, 4.1.2.1)
abbrev pub spelled_version : List ℕ
spelled_version = der_constructed (context 0) (der_primitive integer_tag (2 ∷ []))

-- sha256WithRSAEncryption with NULL
unfoldable pub spelled_algorithm : List ℕ
spelled_algorithm = spelled_identifier names.sha256_with_rsa true

-- the fields in their order; the algorithm with NULL, and the names as they are held
abbrev pub spelled_fields : TbsFields → List ℕ
spelled_fields t =
    spelled_version
    ++ (der_serial t.serial
    ++ (spelled_algorithm
    ++ (t.issuer
    ++ (spelled_validity t.validity
    ++ (t.subject
    ++ (spelled_key t.key
    ++ der_constructed (context 3) (der_constructed sequence (spelled_extensions t))))))))

-- TBSCertificate: a SEQUENCE of the fields (RFC 5280, 4.1.2)
unfoldable pub spelled_tbs : TbsFields → List ℕ
spelled_tbs t = der_constructed sequence (spelled_fields t)

-- the fields have a spelling: four length octets can say how long they are (X.690, 8.1.3)
abbrev pub CanSpellCertificate : TbsFields → Type 0
CanSpellCertificate t = length (spelled_fields t) < 2 ^ 32

-- ---- fields that are read again where they are written

-- twenty octets, if there are any
abbrev pub AreTwenty : Option (List ℕ) → Type 0
AreTwenty None = ⊤
AreTwenty (Some octets) = length octets ≡ 20

-- serial number and key identifiers have twenty octets, the names are names, and the times are in
-- the years 0 to 9999
pub record AreReadable (mode : Mode) (t : TbsFields) : Type 0 where
  pub serial : length t.serial ≡ 20
  pub issuer : IsWhole name mode t.issuer t.issuer
  pub not_before : IsMoment t.validity.not_before
  pub not_after : IsMoment t.validity.not_after
  pub subject : IsWhole name mode t.subject t.subject
  pub subject_key_id : length t.subject_key_id ≡ 20
  pub authority_key_id : AreTwenty t.authority_key_id
