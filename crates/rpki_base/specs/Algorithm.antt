-- Kinds of signature, and the formats of the keys that they need (RFC 7935, 2 and 3; RFC 8208, 2
-- and 3).
use Rattle.rpki_base.specs.declared.algorithm.PublicKeyFormat.{PublicKeyFormat}
use Rattle.rpki_base.specs.declared.algorithm.PublicKeyFormat.TheVariants.{Rsa, EcdsaP256}
use Rattle.rpki_base.specs.declared.algorithm.SigningAlgorithm.{SigningAlgorithm}
use Rattle.rpki_base.specs.declared.algorithm.SigningAlgorithm.TheVariants.{RsaSha256, EcdsaP256Sha256}

-- the format of the keys that a kind of signature is made and checked with
abbrev pub format_of : SigningAlgorithm → PublicKeyFormat
format_of RsaSha256 = Rsa
format_of EcdsaP256Sha256 = EcdsaP256
