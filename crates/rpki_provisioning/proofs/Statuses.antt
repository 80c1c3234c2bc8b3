-- The number that the text of a status is.
use Rattle.std.proofs.Common.{◌≡◌, ℕ, ◌<◌, ◌^◌, Bool, true, false, ◌&&◌, Some, None, Ok, Err, List, length, ◌≢◌, get_or, refl, sym, ap, ◌∙◌, arith}
use Rattle.std.specs.Prelude.{nat_lt, if◌then◌else◌}
use Rattle.std.specs.Fmt.{decimal}
use Rattle.std.specs.Str.{all_ascii_digits}
use Rattle.std.specs.Str.Parse.{ParsesUnsigned, AllDigits, digits_value, without_leading_plus}
use Rattle.std.proofs.lemmas.Bool.{and_from, and_parts, lt-ltb, cond-true}
use Rattle.std.proofs.lemmas.Bool.Decides.{nat_tests}
use Rattle.std.proofs.lemmas.Fmt.{decimal_is_IsNumeral}
use Rattle.std.proofs.lemmas.Str.Parse.{IsNumeralModel, numerals_by_value, tells_all_ascii_digits, without_leading_plus_none, digit_at}
use Rattle.rpki_sets.specs.Texts.{decimal_below}
use Rattle.rpki_provisioning.specs.NotPerformed.{status_of_text}

model : IsNumeralModel (λ ds. all_ascii_digits ds ≡ true) (digits_value 10)
model = numerals_by_value _ tells_all_ascii_digits

below : (a b : ℕ) → nat_lt a b ≡ true → a < b
below a b e = grind (arith, nat_tests)

some_below : (t : List ℕ) (n limit : ℕ) → 0 < length t → AllDigits 10 t → digits_value 10 t < limit → n ≡ digits_value 10 t → decimal_below limit t ≡ Some n
unfolding decimal_below
some_below t n limit some digits short is =
    cond-true _ _ _ (and_from _ _ (and_from _ _ (lt-ltb 0 (length t) some) (model.from t digits)) (lt-ltb (digits_value 10 t) limit short)) ∙ ap (λ (k : ℕ). Some k) (sym is)

none_below : (t : List ℕ) (limit : ℕ) → ((0 < length t) × AllDigits 10 t → digits_value 10 t < limit → ⊥) → decimal_below limit t ≡ None
unfolding decimal_below
none_below t limit absent = go (nat_lt 0 (length t) && all_ascii_digits t && nat_lt (digits_value 10 t) limit) refl
  where
    go : (b : Bool) → (nat_lt 0 (length t) && all_ascii_digits t && nat_lt (digits_value 10 t) limit) ≡ b → (if b then Some (digits_value 10 t) else None) ≡ None
    go false e = refl
    go true e =
        let p = and_parts (nat_lt 0 (length t) && all_ascii_digits t) (nat_lt (digits_value 10 t) limit) e in
        let q = and_parts (nat_lt 0 (length t)) (all_ascii_digits t) p.0 in
        absurd (absent (below 0 (length t) q.0, model.to t q.1) (below (digits_value 10 t) limit p.1))

pub status_read : (E : Type 0) (text : List ℕ) (n : ℕ) → ParsesUnsigned {E = E} 64 10 text (Ok n) → status_of_text text ≡ Some n
status_read E text n h = some_below (without_leading_plus text) n (2 ^ 64) h.0.0.0 h.0.0.1 h.0.1 h.1

pub status_none : (E : Type 0) (text : List ℕ) (e : E) → ParsesUnsigned {E = E} 64 10 text (Err e) → status_of_text text ≡ None
status_none E text e h = none_below (without_leading_plus text) (2 ^ 64) (λ numeral short. h (numeral, short))

-- a status that is written is read as itself
no_plus : (n : ℕ) → n < 2 ^ 64 → get_or (decimal n) 0 0 ≢ 43
no_plus n h = λ e. let k = decimal_is_IsNumeral n h in let d = digit_at (decimal n) 0 k.0.1 k.0.0 in omega (arith, d, e)

pub decimal_read : (n : ℕ) → n < 2 ^ 64 → status_of_text (decimal n) ≡ Some n
decimal_read n h =
    let k = decimal_is_IsNumeral n h in
    ap (decimal_below (2 ^ 64)) (without_leading_plus_none (decimal n) (no_plus n h)) ∙ some_below (decimal n) n (2 ^ 64) k.0.0 k.0.1 (omega (arith, h, k.1)) (sym k.1)
