-- Hexadecimal input: an even number of digits of either case, and at most one line feed behind
-- them.
use Rattle.std.specs.Prelude.{ℕ, ◌≡◌, ◌⊎◌, ◌-◌, ◌==◌, ◌++◌, ◌∷◌, [], if◌then◌else◌, Option, Some, List, length, take, slice_index_or}
use Rattle.std.specs.Result.{result_ok}
use Rattle.hex.specs.Hex.{decode_of}

-- the input without its last octet, if that is a line feed
abbrev pub digits_of : List ℕ → List ℕ
digits_of input =
    if slice_index_or input (length input - 1) 0 == 10 then take (length input - 1) input
    else input

-- the octets that the digits spell, two digits an octet; none where they are no even number of
-- digits
abbrev pub hexadecimal : List ℕ → Option (List ℕ)
hexadecimal input = result_ok (decode_of (digits_of input))

-- the input is the digits of the octets, with a line feed behind them or none
pub record IsSpelling (input octets : List ℕ) : Type 0 where
  pub digits : List ℕ
  pub are : (input ≡ digits) ⊎ (input ≡ digits ++ 10 ∷ [])
  pub spell : result_ok (decode_of digits) ≡ Some octets
