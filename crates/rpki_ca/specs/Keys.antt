-- When two keys are one key.
use Rattle.std.specs.Prelude.{◌&&◌, Bool, true, false, bytes_eq}
use Rattle.rpki_base.specs.declared.algorithm.PublicKeyFormat.{PublicKeyFormat}
use Rattle.rpki_base.specs.declared.algorithm.PublicKeyFormat.TheVariants.{Rsa, EcdsaP256}
use Rattle.rpki_base.specs.PublicKey.{KeyFields}

-- two keys have one format
abbrev pub same_format : PublicKeyFormat → PublicKeyFormat → Bool
same_format Rsa Rsa = true
same_format EcdsaP256 EcdsaP256 = true
same_format one other = false

-- two keys have one format, and their bits the same octets
abbrev pub same_key : KeyFields → KeyFields → Bool
same_key one other = same_format one.format other.format && bytes_eq one.bits other.bits
