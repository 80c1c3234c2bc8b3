-- AS numbers are a lawful kind.
use Rattle.std.proofs.Common.{◌≡◌, ◌≢◌, ℕ, ◌^◌, ◌<◌, true, None, Some, List, [], ◌∷◌, length, get_or, refl, ap, ◌∙◌, arith, lit≤}
use Rattle.std.specs.Fmt.{decimal}
use Rattle.std.specs.List.{All}
use Rattle.std.specs.Int.{IsInRange}
use Rattle.std.specs.Char.{to_ascii_lowercase}
use Rattle.std.specs.Str.{all_ascii_digits}
use Rattle.std.specs.Str.Parse.{digits_value}
use Rattle.std.proofs.lemmas.Bool.{cond-true, cond-false, and_left, and_from, lt-ltb, ne_eqb}
use Rattle.std.proofs.lemmas.Bool.Decides.{nat_tests}
use Rattle.std.proofs.lemmas.List.Elements.{All-from_get_or}
use Rattle.std.proofs.lemmas.Fmt.{decimal_is_IsNumeral}
use Rattle.std.proofs.lemmas.Str.Parse.{digit_at, numerals_by_value, tells_all_ascii_digits}
use Rattle.rpki_sets.specs.Texts.{decimal_below}
use Rattle.rpki_sets.specs.Kinds.{IsLawfulKind, IsPlain}
use Rattle.rpki_sets.specs.AsNumbers.{without_as, as_number, as_kind}
use Rattle.rpki_sets.proofs.Fitting.{decimal_below-below}

digits_decimal : (n : ℕ) → n < 2 ^ 32 → all_ascii_digits (decimal n) ≡ true
digits_decimal n small =
    (numerals_by_value (λ ds. all_ascii_digits ds ≡ true) tells_all_ascii_digits).from (decimal n) (decimal_is_IsNumeral n (omega arith)).0.1

-- what is written in decimal is read as the same number
pub decimal_below-decimal : (limit n : ℕ) → n < limit → n < 2 ^ 32 → decimal_below limit (decimal n) ≡ Some n
unfolding decimal_below
decimal_below-decimal limit n below small =
    let numeral = decimal_is_IsNumeral n (omega arith) in
    let value : digits_value 10 (decimal n) ≡ n = numeral.1 in
    let fits : digits_value 10 (decimal n) < limit = rw value below in
    cond-true _ _ _ (and_from _ _ (and_from _ _ (lt-ltb _ _ numeral.0.0) (digits_decimal n small)) (lt-ltb _ _ fits)) ∙ ap Some value

-- a text that begins with a digit begins with no AS
without_as-digit : (text : List ℕ) → 0 < length text → IsInRange 48 57 (get_or text 0 0) → without_as text ≡ text
without_as-digit [] long digit = absurd (omega arith)
without_as-digit (c ∷ cs) long digit =
    let other : to_ascii_lowercase c ≢ 97 = grind (arith, nat_tests) in
    cond-false _ _ _ (and_left _ _ (ne_eqb _ _ other))

pub All-plain-decimal : (n : ℕ) → n < 2 ^ 32 → All IsPlain (decimal n)
All-plain-decimal n small =
    All-from_get_or IsPlain (decimal n) 0 (λ i h.
    let digit = digit_at (decimal n) i (decimal_is_IsNumeral n (omega arith)).0.1 h in
    (omega arith, omega arith, omega arith, omega arith))

as_again : (n : ℕ) → n < 2 ^ 32 → as_number (decimal n) ≡ Some n
unfolding as_number
as_again n small =
    let numeral = decimal_is_IsNumeral n (omega arith) in
    ap (decimal_below (2 ^ 32)) (without_as-digit (decimal n) numeral.0.0 (digit_at (decimal n) 0 numeral.0.1 numeral.0.0)) ∙ decimal_below-decimal (2 ^ 32) n small small

as_within : (text : List ℕ) (n : ℕ) → as_number text ≡ Some n → n < 2 ^ 32
unfolding as_number
as_within text n e = decimal_below-below (2 ^ 32) (without_as text) n e

as_empty : as_number [] ≡ None
unfolding as_number decimal_below
as_empty = refl

pub as_lawful : IsLawfulKind as_kind
as_lawful = record { bounded = lit≤ tt; within = as_within; again = as_again; empty = as_empty; plain = All-plain-decimal }
