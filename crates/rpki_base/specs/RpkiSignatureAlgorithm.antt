-- The signature algorithm of the RPKI: RSA over SHA-256 (RFC 7935, 2; RFC 4055, 5; RFC 5754, 3.2).
use Rattle.std.specs.Prelude.{ℕ, Bool, bytes_eq, if◌then◌else◌, Option, None, Some, List}
use Rattle.rpki_der.specs.declared.mode.Mode.{Mode}
use Rattle.rpki_der.specs.Value.{Value}
use Rattle.rpki_der.specs.Grammar.{so}
use Rattle.rpki_der.specs.Whole.{whole_of}
use Rattle.rpki_base.specs.declared.rpki_algorithm.RsaIdentifier.{RsaIdentifier}
use Rattle.rpki_base.specs.declared.rpki_algorithm.RsaIdentifier.TheVariants.{RsaEncryption, Sha256WithRsaEncryption}
use Rattle.rpki_base.specs.ObjectIdentifiers.{rsa_encryption, sha256_with_rsa}
use Rattle.rpki_base.specs.SignedData.{algorithm_in}
use Rattle.rpki_base.specs.AlgorithmIdentifier.{algorithm_identifier, spelled_identifier}

-- the object identifier that stands in a signer's information, and whether NULL stands behind the
-- object identifier
pub record RpkiAlgorithm : Type 0 where
  pub identifier : RsaIdentifier
  pub null : Bool

-- in certificates: sha256WithRSAEncryption alone; a signer's information then has rsaEncryption
abbrev pub x509_meaning : List ℕ × Bool → Option RpkiAlgorithm
x509_meaning a =
    if bytes_eq a.0 sha256_with_rsa then Some (record { identifier = RsaEncryption; null = a.1 })
    else None

-- the algorithm identifier in a certificate, a CRL or a request: sha256WithRSAEncryption, with NULL
-- or without parameters
unfoldable pub x509_algorithm : Value → Option RpkiAlgorithm
x509_algorithm = so algorithm_identifier x509_meaning

-- the algorithm that a certificate or a CRL names
abbrev pub algorithm : Mode → Value → Option RpkiAlgorithm
algorithm mode = algorithm_in (whole_of x509_algorithm) mode

-- in a signer's information: rsaEncryption or sha256WithRSAEncryption (RFC 7935, 2)
abbrev pub cms_meaning : List ℕ × Bool → Option RpkiAlgorithm
cms_meaning a =
    if bytes_eq a.0 rsa_encryption then Some (record { identifier = RsaEncryption; null = a.1 })
    else if bytes_eq a.0 sha256_with_rsa
    then Some (record { identifier = Sha256WithRsaEncryption; null = a.1 })
    else None

-- the algorithm identifier in a signer's information: rsaEncryption or sha256WithRSAEncryption,
-- with NULL or without parameters
unfoldable pub cms_algorithm : Value → Option RpkiAlgorithm
cms_algorithm = so algorithm_identifier cms_meaning

-- ---- as it is written

-- the object identifier that is written in a signer's information
abbrev pub name_of : RsaIdentifier → List ℕ
name_of RsaEncryption = rsa_encryption
name_of Sha256WithRsaEncryption = sha256_with_rsa

-- the algorithm identifier that is written in a certificate, a CRL or a request:
-- sha256WithRSAEncryption, and NULL if the algorithm has it
abbrev pub spelled_x509 : RpkiAlgorithm → List ℕ
spelled_x509 a = spelled_identifier sha256_with_rsa a.null

-- the algorithm identifier that is written in a signer's information, with NULL if the algorithm
-- has it
abbrev pub spelled_cms : RpkiAlgorithm → List ℕ
spelled_cms a = spelled_identifier (name_of a.identifier) a.null
