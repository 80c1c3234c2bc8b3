-- Identity certificates (RFC 5280, 4.1).
use Rattle.std.specs.Prelude.{Option}
use Rattle.rpki_der.specs.declared.mode.Mode.{Mode}
use Rattle.rpki_der.specs.Value.{Value}
use Rattle.rpki_der.specs.Whole.{whole_of}
use Rattle.rpki_base.specs.SignedData.{Signed, signed_value}
use Rattle.rpki_base.specs.RpkiSignatureAlgorithm.{RpkiAlgorithm, x509_algorithm}
use Rattle.rpki_idcert.specs.TbsIdCert.{TbsFields, tbs_certificate}

-- the exact octets that are signed with their signature, and what they say
abbrev pub CertificateFields : Type 0
CertificateFields = Signed RpkiAlgorithm TbsFields

--     Certificate ::= SEQUENCE {
--       tbsCertificate TBSCertificate,
--       signatureAlgorithm AlgorithmIdentifier,
--       signatureValue BIT STRING }
unfoldable pub identity_certificate : Mode → Value → Option CertificateFields
identity_certificate mode = signed_value tbs_certificate (whole_of x509_algorithm) mode
