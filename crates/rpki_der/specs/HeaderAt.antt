-- The identifier and the length at the beginning of octets, as functions: means for `value_at`,
-- tied to Identifier and Lengths by proofs/Heads.antt.
use Rattle.std.specs.Prelude.{ℕ, zero, suc, ◌+◌, ◌-◌, ◌%◌, Bool, true, false, ◌==◌, ◌||◌, nat_lt, if◌then◌else◌, Option, None, Some, List, [], ◌∷◌, length, take}
use Rattle.std.specs.Option.{option_map}
use Rattle.rpki_der.specs.declared.header.Length.{Length}
use Rattle.rpki_der.specs.declared.header.Length.TheVariants as length_is
use Rattle.rpki_der.specs.declared.mode.Mode.{Mode}
use Rattle.rpki_der.specs.declared.mode.Mode.TheVariants.{Ber, Der}
use Rattle.rpki_der.specs.Lengths.{number}

-- how many octets there are up to the first with bit 8 clear, which is among the first k
abbrev pub further_size : ℕ → List ℕ → Option ℕ
further_size zero octets = None
further_size (suc k) [] = None
further_size (suc k) (a ∷ more) =
    if nat_lt a 128 then Some 1 else option_map suc (further_size k more)

-- how many octets the identifier at the beginning has
abbrev pub identifier_size : List ℕ → Option ℕ
identifier_size [] = None
identifier_size (a ∷ more) =
    if a % 32 == 31 then option_map suc (further_size 3 more)
    else if a == 0 || a == 32 then None
    else Some 1

-- ---- the length

-- whether DER refuses these octets of a number
abbrev pub is_overlong : Mode → List ℕ → Bool
is_overlong Ber octets = false
is_overlong Der [] = true
is_overlong Der (a ∷ more) = a == 0 || nat_lt (number (a ∷ more)) 128

-- the long form of a length, whose count octets are the first of these: they are all there, and in
-- DER no shorter form says that length (X.690, 8.1.3.5 and 10.1)
abbrev pub long_length : Mode → ℕ → List ℕ → Option (Length × ℕ)
long_length mode count more =
    if nat_lt (length more) count then None
    else if is_overlong mode (take count more) then None
    else Some (length_is.Definite (number (take count more)), count + 1)

-- the indefinite form of a length, which is one octet, and in BER alone (X.690, 8.1.3.6 and 10.1)
abbrev pub indefinite_length : Mode → Option (Length × ℕ)
indefinite_length Ber = Some (length_is.Indefinite, 1)
indefinite_length Der = None

-- the length at the beginning, and how many octets it has
abbrev pub length_at : Mode → List ℕ → Option (Length × ℕ)
length_at mode [] = None
length_at mode (a ∷ more) =
    if nat_lt a 128 then Some (length_is.Definite a, 1)
    else if a == 128 then indefinite_length mode
    else if nat_lt 132 a then None
    else long_length mode (a - 128) more
