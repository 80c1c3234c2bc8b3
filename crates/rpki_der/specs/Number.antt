-- INTEGER (X.690, 8.3).
use Rattle.std.specs.Prelude.{ℕ, ◌^◌, Bool, true, ◌==◌, ◌&&◌, ◌||◌, nat_lt, nat_le, if◌then◌else◌, Option, None, Some, List, [], ◌∷◌}
use Rattle.rpki_der.specs.Tags.{integer_tag}
use Rattle.rpki_der.specs.Lengths.{number}
use Rattle.rpki_der.specs.Value.{Value}
use Rattle.rpki_der.specs.Grammar.{primitive, so}

-- a two's complement number in the fewest octets: its first nine bits are neither all clear nor all
-- set
abbrev pub minimal : List ℕ → Option (List ℕ)
minimal [] = None
minimal (a ∷ []) = Some (a ∷ [])
minimal (a ∷ b ∷ more) = if (a == 0 && nat_lt b 128) || (a == 255 && nat_le 128 b) then None
    else Some (a ∷ b ∷ more)

-- the contents of an INTEGER
unfoldable pub integer : Value → Option (List ℕ)
integer = so (primitive integer_tag) minimal

-- bit 8 of the first octet, the sign, is clear
abbrev pub is_not_negative : List ℕ → Bool
is_not_negative [] = true
is_not_negative (a ∷ more) = nat_lt a 128

-- the number, if it is below 2^64
abbrev pub below_2_64 : ℕ → Option ℕ
below_2_64 n = if nat_lt n (2 ^ 64) then Some n else None

-- the number, if it isn't negative and is below 2^64
abbrev pub small_number : List ℕ → Option ℕ
small_number octets = if is_not_negative octets then below_2_64 (number octets) else None

-- an INTEGER that isn't negative and is below 2^64
unfoldable pub u64 : Value → Option ℕ
u64 = so integer small_number
