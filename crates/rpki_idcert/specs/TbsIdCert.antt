-- What is signed of an identity certificate (RFC 5280, 4.1.1.1 and 4.1.2).
use Rattle.std.specs.Prelude.{ℕ, Bool, Option, List}
use Rattle.rpki_common.specs.Chaining.{◌>>=◌}
use Rattle.rpki_der.specs.declared.mode.Mode.{Mode}
use Rattle.rpki_der.specs.Tags.{sequence, context}
use Rattle.rpki_der.specs.Value.{Value, Values}
use Rattle.rpki_der.specs.Grammar.{within, first, done, wrapped}
use Rattle.rpki_der.specs.Integer.{integer_is}
use Rattle.rpki_base.specs.RpkiSignatureAlgorithm.{algorithm}
use Rattle.rpki_base.specs.Serial.{serial}
use Rattle.rpki_base.specs.Name.{name}
use Rattle.rpki_base.specs.Validity.{ValidityFields, validity}
use Rattle.rpki_base.specs.PublicKey.{KeyFields, public_key}
use Rattle.rpki_idcert.specs.Extensions.{extension_list}

-- The serial number is twenty octets, the names are their octets. cA is what basicConstraints say,
-- if they are there; the last two are the key identifiers of the subject and of the issuer.
pub record TbsFields : Type 0 where
  pub serial : List ℕ
  pub issuer : List ℕ
  pub validity : ValidityFields
  pub subject : List ℕ
  pub key : KeyFields
  pub basic_ca : Option Bool
  pub subject_key_id : List ℕ
  pub authority_key_id : Option (List ℕ)

-- the version, which is 3 (4.1.2.1)
abbrev pub version : Value → Option (Unit {0})
version = wrapped (context 0) (integer_is 2)

--     TBSCertificate ::= SEQUENCE {
--       version [0] EXPLICIT Version DEFAULT v1,
--       serialNumber CertificateSerialNumber,
--       signature AlgorithmIdentifier,
--       issuer Name,
--       validity Validity,
--       subject Name,
--       subjectPublicKeyInfo SubjectPublicKeyInfo,
--       issuerUniqueID [1] IMPLICIT UniqueIdentifier OPTIONAL,
--       subjectUniqueID [2] IMPLICIT UniqueIdentifier OPTIONAL,
--       extensions [3] EXPLICIT Extensions OPTIONAL }
--
-- The version is v3, which is spelled 2, and the two unique identifiers can't be there. The
-- algorithm is read, and is no field: it is always that one.
-- Extensions have to be there, since the subject's key identifier stands in them.
abbrev pub tbs_fields : Mode → Values → Option TbsFields
tbs_fields mode vs = do
  version ← first version vs
  serial ← first serial version.1
  algorithm ← first (algorithm mode) serial.1
  issuer ← first name algorithm.1
  validity ← first validity issuer.1
  subject ← first name validity.1
  key ← first public_key subject.1
  known ← first (wrapped (context 3) (extension_list mode)) key.1
  done (record {
    serial = serial.0;
    issuer = issuer.0;
    validity = validity.0;
    subject = subject.0;
    key = key.0;
    basic_ca = known.0.basic_ca;
    subject_key_id = known.0.subject;
    authority_key_id = known.0.authority;
  }) known.1

-- the signed certificate: a SEQUENCE of these
unfoldable pub tbs_certificate : Mode → Value → Option TbsFields
tbs_certificate mode = within sequence (tbs_fields mode)
