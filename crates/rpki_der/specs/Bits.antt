-- BIT STRING, primitive (X.690, 8.6).
use Rattle.std.specs.Prelude.{ℕ, ◌==◌, nat_lt, if◌then◌else◌, Option, None, Some, List, [], ◌∷◌}
use Rattle.rpki_der.specs.Tags.{bit_string_tag}
use Rattle.rpki_der.specs.Value.{Value}
use Rattle.rpki_der.specs.Grammar.{primitive, so}

-- how many bits of the last octet are unused, and the octets of the bits
pub record BitFields : Type 0 where
  pub unused : ℕ
  pub octets : List ℕ

-- the first octet is the count of unused bits, 0 to 7, and 0 where no octet follows
abbrev pub bits : List ℕ → Option BitFields
bits [] = None
bits (a ∷ []) = if a == 0 then Some (record { unused = 0; octets = [] }) else None
bits (a ∷ b ∷ more) = if nat_lt a 8 then Some (record { unused = a; octets = b ∷ more }) else None

-- a primitive BIT STRING: how many bits of its last octet are unused, and its octets
unfoldable pub bit_string : Value → Option BitFields
bit_string = so (primitive bit_string_tag) bits
