-- The loop that reads decimal digits.
use Rattle.std.proofs.Common.{◌≡◌, ℕ, zero, suc, ◌+◌, ◌-◌, ◌*◌, ◌<◌, ◌≤◌, true, false, ◌&&◌, ltb, eqb, None, Some, List, [], ◌∷◌, length, take, get_or, refl, sym, ap, ◌∙◌, arith, add-one, take_all}
use Rattle.std.specs.Char.{digit_value, is_ascii_digit}
use Rattle.std.specs.Str.{all_ascii_digits}
use Rattle.std.specs.Str.Parse.{digits_value}
use Rattle.std.proofs.lemmas.Bool.{false≢true, cond-true, cond-false, and_left, and_right, and_from, and_parts, lt-ltb, le-ltb}
use Rattle.std.proofs.lemmas.Bool.Decides.{nat_tests}
use Rattle.std.proofs.lemmas.Int.Digits.{digits_value_more}
use Rattle.std.proofs.lemmas.Str.Parse.{digits_value-take-le}
use Rattle.rpki_sets.specs.Texts.{decimal_below}

pub not_empty : (n : ℕ) → false ≡ eqb n 0 → 0 < n
not_empty zero e = absurd (false≢true e)
not_empty (suc n) e = omega arith

all_digits_not : (text : List ℕ) (i : ℕ) → i < length text → is_ascii_digit (get_or text i 0) ≡ false → all_ascii_digits text ≡ false
all_digits_not [] i within e = absurd (omega arith)
all_digits_not (c ∷ cs) zero within e = and_left (is_ascii_digit c) (all_ascii_digits cs) e
all_digits_not (c ∷ cs) (suc i) within e = and_right (is_ascii_digit c) (all_ascii_digits cs) (all_digits_not cs i (omega arith) e)

all_digits_more : (text : List ℕ) (i : ℕ) → i < length text → all_ascii_digits (take i text) ≡ true → is_ascii_digit (get_or text i 0) ≡ true → all_ascii_digits (take (suc i) text) ≡ true
all_digits_more [] i within front e = absurd (omega arith)
all_digits_more (c ∷ cs) zero within front e = and_from (is_ascii_digit c) true e refl
all_digits_more (c ∷ cs) (suc i) within front e =
    let parts = and_parts (is_ascii_digit c) (all_ascii_digits (take i cs)) front in
    and_from (is_ascii_digit c) (all_ascii_digits (take (suc i) cs)) parts.0 (all_digits_more cs i (omega arith) parts.1 e)

digit_value-digit : (c : ℕ) → is_ascii_digit c ≡ true → digit_value c ≡ c - 48
digit_value-digit c e = grind (arith, nat_tests)

-- the digits before the place i write the number
pub record IsReading (limit : ℕ) (text : List ℕ) (i number : ℕ) : Type 0 where
  pub digits : all_ascii_digits (take i text) ≡ true
  pub value : number ≡ digits_value 10 (take i text)
  pub small : number < limit

pub start_reading : (limit : ℕ) (text : List ℕ) → 0 < limit → IsReading limit text 0 0
start_reading limit text positive = record { digits = refl; value = refl; small = positive }

module _ (limit : ℕ) (text : List ℕ) where
  none_where : (ltb 0 (length text) && all_ascii_digits text && ltb (digits_value 10 text) limit) ≡ false → None ≡ decimal_below limit text
  unfolding decimal_below
  none_where e = sym (cond-false _ _ _ e)

  pub none_empty : length text ≡ 0 → None ≡ decimal_below limit text
  none_empty e = none_where (and_left _ _ (and_left _ _ (le-ltb 0 (length text) (omega arith))))

  module _ (i number : ℕ) (within : i < length text) (so : IsReading limit text i number) where
    pub none_other : is_ascii_digit (get_or text i 0) ≡ false → None ≡ decimal_below limit text
    none_other e = none_where (and_left _ _ (and_right _ _ (all_digits_not text i within e)))

    next_value : is_ascii_digit (get_or text i 0) ≡ true → number * 10 + (get_or text i 0 - 48) ≡ digits_value 10 (take (i + 1) text)
    next_value e =
        ap (λ n. n * 10 + (get_or text i 0 - 48)) so.value ∙ ap (λ d. digits_value 10 (take i text) * 10 + d) (sym (digit_value-digit (get_or text i 0) e))
        ∙ sym (digits_value_more 10 text i within)

    pub none_large : (next : ℕ) → next ≡ number * 10 + (get_or text i 0 - 48) → is_ascii_digit (get_or text i 0) ≡ true → limit ≤ next → None ≡ decimal_below limit text
    none_large next is e large =
        let reached : digits_value 10 (take (i + 1) text) ≤ digits_value 10 text = digits_value-take-le 10 text (i + 1) (omega arith) in
        let past : limit ≤ digits_value 10 text = omega (arith, next_value e) in
        none_where (and_right _ _ (le-ltb (digits_value 10 text) limit past))

    pub reading_more : (next : ℕ) → next ≡ number * 10 + (get_or text i 0 - 48) → is_ascii_digit (get_or text i 0) ≡ true → next < limit → IsReading limit text (i + 1) next
    reading_more next is e small = record {
      digits = rw add-one (all_digits_more text i within so.digits e);
      value = is ∙ next_value e;
      small = small;
    }

  pub some_read : (i number : ℕ) → 0 < length text → length text ≤ i → IsReading limit text i number → Some number ≡ decimal_below limit text
  unfolding decimal_below
  some_read i number positive past so =
      let whole : take i text ≡ text = take_all i text past in
      let value : number ≡ digits_value 10 text = so.value ∙ ap (digits_value 10) whole in
      let digits : all_ascii_digits text ≡ true = sym (ap all_ascii_digits whole) ∙ so.digits in
      let below : digits_value 10 text < limit = let small = so.small in omega arith in
      ap Some value ∙ sym (cond-true _ _ _ (and_from _ _ (and_from _ _ (lt-ltb _ _ positive) digits) (lt-ltb _ _ below)))
