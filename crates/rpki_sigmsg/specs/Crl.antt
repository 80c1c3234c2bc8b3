-- The CRL of a signed message (RFC 5280, 5.1; RFC 6492, 3.1.1).
use Rattle.std.specs.Prelude.{Option}
use Rattle.rpki_der.specs.declared.mode.Mode.{Mode}
use Rattle.rpki_der.specs.Value.{Value}
use Rattle.rpki_der.specs.Whole.{whole_of}
use Rattle.rpki_base.specs.SignedData.{Signed, signed_value}
use Rattle.rpki_base.specs.RpkiSignatureAlgorithm.{RpkiAlgorithm, x509_algorithm}
use Rattle.rpki_sigmsg.specs.TbsCrl.{TbsCrlFields, tbs_crl}

-- the exact octets that are signed with their signature, and what they say
abbrev pub CrlFields : Type 0
CrlFields = Signed RpkiAlgorithm TbsCrlFields

--     CertificateList ::= SEQUENCE {
--       tbsCertList TBSCertList,
--       signatureAlgorithm AlgorithmIdentifier,
--       signatureValue BIT STRING }
unfoldable pub revocation_list : Mode → Value → Option CrlFields
revocation_list mode = signed_value tbs_crl (whole_of x509_algorithm) mode
