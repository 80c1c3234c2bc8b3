-- A key that is written is taken again as the same key.
use Rattle.std.proofs.Common.{◌≡◌, ℕ, ◌+◌, ◌<◌, ◌≤◌, Some, List, [], ◌∷◌, ◌++◌, length, refl, arith, length-append}
use Rattle.rpki_common.specs.Chaining.{◌>>=◌}
use Rattle.rpki_der.specs.declared.mode.Mode.{Mode}
use Rattle.rpki_der.specs.Tags.{sequence, null_tag, oid_tag, bit_string_tag}
use Rattle.rpki_der.specs.Value.{Value, End, ◌▸◌, Begins}
use Rattle.rpki_der.specs.Grammar.{within, first, optional, done, so}
use Rattle.rpki_der.specs.Oid.{oid, oid_is}
use Rattle.rpki_der.specs.Null.{null}
use Rattle.rpki_der.specs.Bits.{bit_string}
use Rattle.rpki_der.specs.Writing.{primitive_value, constructed_value, der_length, Spells}
use Rattle.rpki_der.proofs.Written.{spells_followed, spells_primitive, spells_constructed, begins_constructed}
use Rattle.rpki_base.specs.declared.algorithm.PublicKeyFormat.{PublicKeyFormat}
use Rattle.rpki_base.specs.declared.algorithm.PublicKeyFormat.TheVariants.{Rsa, EcdsaP256}
use Rattle.rpki_base.specs.Bits.{spelled_bits}
use Rattle.rpki_base.specs.ObjectIdentifiers.{rsa_encryption, ec_public_key, prime256v1}
use Rattle.rpki_base.specs.PublicKey.{KeyFields, parameters, named_format, key_algorithm, public_key, spelled_algorithm, spelled_key, CanSpellKey}
use Rattle.rpki_base.specs.WritingLaws.{is_sequence, is_oid, is_null, is_bits}

-- the values that the two formats and the bits are written as

abbrev algorithm_value : PublicKeyFormat → Value
algorithm_value Rsa = constructed_value sequence (primitive_value oid_tag rsa_encryption ▸ primitive_value null_tag [] ▸ End)
algorithm_value EcdsaP256 = constructed_value sequence (primitive_value oid_tag ec_public_key ▸ primitive_value oid_tag prime256v1 ▸ End)

abbrev pub bits_value : List ℕ → Value
bits_value octets = primitive_value bit_string_tag (0 ∷ octets)

abbrev key_value : PublicKeyFormat → List ℕ → Value
key_value format octets = constructed_value sequence (algorithm_value format ▸ bits_value octets ▸ End)

algorithm_spells : (mode : Mode) (format : PublicKeyFormat) → Spells mode (spelled_algorithm format) (algorithm_value format ▸ End)
algorithm_spells mode Rsa = spells_constructed mode sequence _ _ is_sequence (omega arith) (spells_followed mode _ _ _ _ (spells_primitive mode oid_tag rsa_encryption is_oid (omega arith)) (spells_primitive mode null_tag [] is_null (omega arith)))
algorithm_spells mode EcdsaP256 = spells_constructed mode sequence _ _ is_sequence (omega arith) (spells_followed mode _ _ _ _ (spells_primitive mode oid_tag ec_public_key is_oid (omega arith)) (spells_primitive mode oid_tag prime256v1 is_oid (omega arith)))

pub bits_spell : (mode : Mode) (octets : List ℕ) → length octets + 1 < 4294967296 → Spells mode (spelled_bits octets) (bits_value octets ▸ End)
bits_spell mode octets h = spells_primitive mode bit_string_tag (0 ∷ octets) is_bits (omega arith)

pub bits_within : (octets : List ℕ) → length octets + 1 ≤ length (spelled_bits octets)
bits_within octets = let n : ℕ = length (0 ∷ octets) in omega (arith, length-append (der_length n) (0 ∷ octets))

key_bits : (key : KeyFields) → CanSpellKey key → length key.bits + 1 < 4294967296
key_bits key h = omega (arith, bits_within key.bits, length-append (spelled_algorithm key.format) (spelled_bits key.bits), h)

key_reads : (format : PublicKeyFormat) (octets : List ℕ) → public_key (key_value format octets) ≡ Some (record { format = format; bits = octets })
unfolding public_key key_algorithm named_format parameters within first optional done so oid oid_is null bit_string ◌>>=◌
key_reads Rsa [] = refl
key_reads Rsa (a ∷ octets) = refl
key_reads EcdsaP256 [] = refl
key_reads EcdsaP256 (a ∷ octets) = refl

pub written_key : (mode : Mode) (key : KeyFields) (rest : List ℕ) → CanSpellKey key → (v : Value) × Begins mode (spelled_key key ++ rest) v rest × (public_key v ≡ Some key)
written_key mode key rest h = (
  key_value key.format key.bits,
  begins_constructed mode sequence _ rest _ is_sequence h (spells_followed mode _ _ _ _ (algorithm_spells mode key.format) (bits_spell mode key.bits (key_bits key h))),
  key_reads key.format key.bits,
)
