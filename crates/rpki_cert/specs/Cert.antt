-- Resource certificates, by their outer grammar (RFC 5280, 4.1; RFC 6487, 4).
use Rattle.std.specs.Prelude.{ℕ, Option, Some, List}
use Rattle.rpki_common.specs.Chaining.{◌>>=◌}
use Rattle.rpki_der.specs.declared.mode.Mode.{Mode}
use Rattle.rpki_der.specs.Tags.{sequence, context}
use Rattle.rpki_der.specs.Value.{Value, spelling}
use Rattle.rpki_der.specs.Grammar.{within, first, every, done, wrapped}
use Rattle.rpki_der.specs.Whole.{whole_of}
use Rattle.rpki_base.specs.Extension.{extension}
use Rattle.rpki_base.specs.Name.{name}
use Rattle.rpki_base.specs.PublicKey.{KeyFields, public_key}
use Rattle.rpki_base.specs.RpkiSignatureAlgorithm.{RpkiAlgorithm, algorithm, x509_algorithm}
use Rattle.rpki_base.specs.Serial.{serial}
use Rattle.rpki_base.specs.Signature.{SignatureParts}
use Rattle.rpki_base.specs.SignedData.{signed_as}
use Rattle.rpki_base.specs.Validity.{validity}
use Rattle.rpki_idcert.specs.TbsIdCert.{version}

-- extensions, of which each may be there any number of times, and what they hold is unread
unfoldable pub unread_extensions : Mode → Value → Option (Unit {0})
unread_extensions mode = within sequence (λ vs. every (extension mode) vs >>= λ all. Some tt)

-- TBSCertificate (4.1): the version is 3, there are no unique identifiers, and extensions have to
-- be there. The key of the subject is what counts.
unfoldable pub tbs_certificate : Mode → Value → Option KeyFields
tbs_certificate mode = within sequence (λ vs. do
  version ← first version vs
  serial ← first serial version.1
  algorithm ← first (algorithm mode) serial.1
  issuer ← first name algorithm.1
  validity ← first validity issuer.1
  subject ← first name validity.1
  key ← first public_key subject.1
  extensions ← first (wrapped (context 3) (unread_extensions mode)) key.1
  done key.0 extensions.1)

-- the key of the subject; the signature isn't kept
abbrev pub what_is_signed : KeyFields → SignatureParts RpkiAlgorithm → KeyFields
what_is_signed key signature = key

-- the exact octets of the certificate, and the key of its subject
pub record CertFields : Type 0 where
  pub slice : List ℕ
  pub key : KeyFields

--     Certificate ::= SEQUENCE {
--       tbsCertificate TBSCertificate,
--       signatureAlgorithm AlgorithmIdentifier,
--       signatureValue BIT STRING }
unfoldable pub certificate : Mode → Value → Option CertFields
certificate mode v = do
  key ← signed_as (tbs_certificate mode) what_is_signed (whole_of x509_algorithm) mode v
  Some (record { slice = spelling v; key = key })
