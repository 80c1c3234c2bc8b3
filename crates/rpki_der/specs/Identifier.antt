-- Identifier octets and tags (X.690, 8.1.2).
use Rattle.std.specs.Prelude.{◌≡◌, ◌≢◌, ℕ, ◌-◌, ◌*◌, ◌/◌, ◌%◌, ◌<◌, ◌≤◌, Bool, false, ◌==◌, bytes_eq, List, [], ◌∷◌, length}

-- bit 8 is set in each octet but the last
abbrev pub IsFurther : List ℕ → Type 0
IsFurther [] = ⊥
IsFurther (a ∷ []) = a < 128
IsFurther (a ∷ b ∷ more) = (128 ≤ a) × IsFurther (b ∷ more)

-- One octet; or, where its five low bits are all ones, up to three octets follow. 00 and 20 are no
-- identifier.
abbrev pub IsIdentifier : List ℕ → Type 0
IsIdentifier [] = ⊥
IsIdentifier (a ∷ []) = (a % 32 ≢ 31) × (a ≢ 0) × (a ≢ 32)
IsIdentifier (a ∷ b ∷ more) = (a % 32 ≡ 31) × (length more ≤ 2) × IsFurther (b ∷ more)

-- bit 6 of the first octet is set
abbrev pub is_constructed : List ℕ → Bool
is_constructed [] = false
is_constructed (a ∷ more) = a / 32 % 2 == 1

-- an octet with bit 6 cleared
abbrev pub without_bit_6 : ℕ → ℕ
without_bit_6 a = a - 32 * (a / 32 % 2)

-- the tag of an identifier: its octets with bit 6 cleared
abbrev pub tag_of : List ℕ → List ℕ
tag_of [] = []
tag_of (a ∷ more) = without_bit_6 a ∷ more

-- whether the identifier has this tag
abbrev pub has_tag : List ℕ → List ℕ → Bool
has_tag tag identifier = bytes_eq (tag_of identifier) tag

-- an identifier with bit 6 clear
abbrev pub IsTag : List ℕ → Type 0
IsTag tag = IsIdentifier tag × (is_constructed tag ≡ false)
