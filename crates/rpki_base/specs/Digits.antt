-- Numbers in decimal digits at the beginning of a text, each with the text behind it.
use Rattle.std.specs.Prelude.{ℕ, ◌+◌, ◌*◌, ◌&&◌, ◌==◌, if◌then◌else◌, Option, None, Some, List, [], ◌∷◌}
use Rattle.std.specs.Char.{is_ascii_digit, digit_value}
use Rattle.rpki_common.specs.Chaining.{◌>>=◌}

-- two digits
abbrev pub two_digits : List ℕ → Option (ℕ × List ℕ)
two_digits [] = None
two_digits (a ∷ []) = None
two_digits (a ∷ b ∷ behind) = if is_ascii_digit a && is_ascii_digit b
    then Some (10 * digit_value a + digit_value b, behind) else None

-- four digits
unfoldable pub four_digits : List ℕ → Option (ℕ × List ℕ)
four_digits text = do
  high ← two_digits text
  low ← two_digits high.1
  Some (100 * high.0 + low.0, low.1)

-- the text behind this character
abbrev pub past : ℕ → List ℕ → Option (List ℕ)
past character [] = None
past character (c ∷ behind) = if c == character then Some behind else None

-- nothing is left of the text
abbrev pub ended : List ℕ → Option (Unit {0})
ended [] = Some tt
ended (c ∷ behind) = None
