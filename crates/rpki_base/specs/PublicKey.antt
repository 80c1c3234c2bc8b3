-- Public keys: SubjectPublicKeyInfo (RFC 5280, 4.1.2.7; RFC 3279, 2.3.1; RFC 7935, 3; RFC 8208,
-- 3.1).
use Rattle.std.specs.Prelude.{ℕ, ◌^◌, ◌<◌, Bool, true, bytes_eq, if◌then◌else◌, Option, None, Some, List, [], ◌++◌, length}
use Rattle.sha1.specs.Sha1.{sha1}
use Rattle.rpki_common.specs.Chaining.{◌>>=◌}
use Rattle.rpki_der.specs.Tags.{sequence, null_tag, oid_tag}
use Rattle.rpki_der.specs.Value.{Value, Values}
use Rattle.rpki_der.specs.Grammar.{within, first, optional, done, so}
use Rattle.rpki_der.specs.Oid.{oid, oid_is}
use Rattle.rpki_der.specs.Null.{null}
use Rattle.rpki_der.specs.Bits.{bit_string}
use Rattle.rpki_der.specs.Writing.{der_primitive, der_constructed}
use Rattle.rpki_base.specs.declared.algorithm.PublicKeyFormat.{PublicKeyFormat}
use Rattle.rpki_base.specs.declared.algorithm.PublicKeyFormat.TheVariants.{Rsa, EcdsaP256}
use Rattle.rpki_base.specs.Bits.{spelled_bits}
use Rattle.rpki_base.specs.ObjectIdentifiers.{rsa_encryption, ec_public_key, prime256v1}

-- a format, and the octets of the key's bits
pub record KeyFields : Type 0 where
  pub format : PublicKeyFormat
  pub bits : List ℕ

-- the format that an object identifier names
abbrev pub format_named : List ℕ → Option PublicKeyFormat
format_named name =
    if bytes_eq name rsa_encryption then Some Rsa
    else if bytes_eq name ec_public_key then Some EcdsaP256
    else None

-- what stands behind it: NULL or nothing behind rsaEncryption, and the curve behind ecPublicKey
unfoldable pub parameters : PublicKeyFormat → Values → Option PublicKeyFormat
parameters Rsa vs = do
  parameter ← optional null_tag null vs
  done Rsa parameter.1
parameters EcdsaP256 vs = do
  curve ← first (oid_is prime256v1) vs
  done EcdsaP256 curve.1

-- the format that a value names, which is an OBJECT IDENTIFIER
unfoldable pub named_format : Value → Option PublicKeyFormat
named_format = so oid format_named

-- the algorithm identifier of a key: its object identifier, and the parameters that belong to it
unfoldable pub key_algorithm : Value → Option PublicKeyFormat
key_algorithm = within sequence (λ vs. do
  format ← first named_format vs
  parameters format.0 format.1)

--     SubjectPublicKeyInfo ::= SEQUENCE {
--       algorithm AlgorithmIdentifier,
--       subjectPublicKey BIT STRING }
--
-- a key; how many bits of the last octet are unused is dropped
unfoldable pub public_key : Value → Option KeyFields
public_key = within sequence (λ vs. do
  format ← first key_algorithm vs
  bits ← first bit_string format.1
  done (record { format = format.0; bits = bits.0.octets }) bits.1)

-- an authority key identifier, if it is there, is the SHA-1 of the bits of the issuer's key
-- (4.2.1.1 and 4.2.1.2)
abbrev pub names_issuer : Option (List ℕ) → KeyFields → Bool
names_issuer None issuer = true
names_issuer (Some id) issuer = bytes_eq id (sha1 issuer.bits)

-- ---- as keys are written

-- rsaEncryption with NULL, or ecPublicKey with its curve
abbrev pub spelled_algorithm : PublicKeyFormat → List ℕ
spelled_algorithm Rsa = der_constructed sequence
    (der_primitive oid_tag rsa_encryption ++ der_primitive null_tag [])
spelled_algorithm EcdsaP256 = der_constructed sequence
    (der_primitive oid_tag ec_public_key ++ der_primitive oid_tag prime256v1)

-- the fields of SubjectPublicKeyInfo: the algorithm identifier, and the key as a BIT STRING
abbrev pub spelled_parts : KeyFields → List ℕ
spelled_parts key = spelled_algorithm key.format ++ spelled_bits key.bits

-- SubjectPublicKeyInfo: a SEQUENCE of the fields (RFC 5280, 4.1)
abbrev pub spelled_key : KeyFields → List ℕ
spelled_key key = der_constructed sequence (spelled_parts key)

-- the key has a spelling: four length octets can say how long its parts are (X.690, 8.1.3)
abbrev pub CanSpellKey : KeyFields → Type 0
CanSpellKey key = length (spelled_parts key) < 2 ^ 32
