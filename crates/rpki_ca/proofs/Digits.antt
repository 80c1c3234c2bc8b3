-- The digits of a hexadecimal input.
use Rattle.std.proofs.Common.{◌≡◌, ◌≢◌, ◌⊎◌, ◌+◌, ◌-◌, ◌<◌, ◌≤◌, ◌==◌, if◌then◌else◌, ℕ, suc, zero, Bool, true, false, eqb, Option, None, Some, Result, Ok, Err, List, [], ◌∷◌, ◌++◌, length, take, get_or, refl, sym, ap, subst, ◌∙◌, inl, inr, arith, add-one, sub-one}
use Rattle.std.proofs.lemmas.List.{length-append, take_all}
use Rattle.std.proofs.lemmas.List.Elements.{All-get_or}
use Rattle.std.proofs.lemmas.Bool.Decides.{eqb_tells}
use Rattle.std.proofs.lemmas.Grind.{get_or_default_zero}
use Rattle.std.proofs.Math.Seq.{take-suc, take-append_seam, get_or-append_seam}
use Rattle.std.specs.Result.{result_ok}
use Rattle.hex.specs.Hex.{decode_of, is_hex_digit}
use Rattle.hex.proofs.HexLemmas.{decode_of-ok}
use Rattle.rpki_ca.specs.Hexadecimal.{IsSpelling, digits_of, hexadecimal}

abbrev without_feed : Bool → List ℕ → List ℕ
without_feed test input = if test then take (length input - 1) input else input

one_less : (digits : List ℕ) → length (digits ++ 10 ∷ []) - 1 ≡ length digits
one_less digits = let l = length-append digits (10 ∷ []) in omega (arith, l)

-- a line feed behind the digits is taken off
pub with_feed : (digits : List ℕ) → digits_of (digits ++ 10 ∷ []) ≡ digits
with_feed digits = rw (one_less digits) (rw (get_or-append_seam digits 10 [] 0) (take-append_seam digits (10 ∷ [])))

-- what stands before a last line feed
at_end : (input : List ℕ) → get_or input (length input - 1) 0 ≡ 10 → input ≡ take (length input - 1) input ++ 10 ∷ []
at_end [] e = absurd (omega (arith, e))
at_end (x ∷ xs) e =
    let l : List ℕ = x ∷ xs in
    let lt : length l - 1 < length l = omega arith in
    let d : get_or l (length l - 1) 10 ≡ get_or l (length l - 1) 0 = get_or_default_zero l (length l - 1) 10 lt in
    sym (take_all (suc (length l - 1)) l (omega arith)) ∙ take-suc l (length l - 1) 10 lt ∙ ap (λ (y : ℕ). take (length l - 1) l ++ y ∷ []) (d ∙ e)

-- digits have no line feed at their end
no_feed : (digits octets : List ℕ) → decode_of digits ≡ Ok octets → get_or digits (length digits - 1) 0 ≡ 10 → ⊥
no_feed [] octets ok e = omega (arith, e)
no_feed (x ∷ xs) octets ok e =
    let l : List ℕ = x ∷ xs in
    let lt : length l - 1 < length l = omega arith in
    let digit = All-get_or (λ (c : ℕ). is_hex_digit c ≡ true) l (length l - 1) 0 lt (decode_of-ok l octets ok).1 in
    no_digit (subst (λ (c : ℕ). is_hex_digit c ≡ true) e digit)
  where
    no_digit : is_hex_digit 10 ≡ true → ⊥
    no_digit h = cc

some_of : {E : Type 0} (r : Result (List ℕ) E) (octets : List ℕ) → result_ok r ≡ Some octets → r ≡ Ok octets
some_of (Ok x) octets e = let same : x ≡ octets = cc in ap (λ (o : List ℕ). Ok o) same
some_of (Err x) octets e = cc

pub is_spelling : (input octets : List ℕ) → hexadecimal input ≡ Some octets → IsSpelling input octets
is_spelling input octets h =
    elim (eqb_tells (get_or input (length input - 1) 0) 10) [
      | inl same ↦ record { digits = take (length input - 1) input; are = inr (at_end input same.1); spell = subst (λ (d : List ℕ). result_ok (decode_of d) ≡ Some octets) (ap (λ (b : Bool). without_feed b input) same.0) h }
      | inr other ↦ record { digits = input; are = inl refl; spell = subst (λ (d : List ℕ). result_ok (decode_of d) ≡ Some octets) (ap (λ (b : Bool). without_feed b input) other.0) h }
    ]

as_they_stand : (digits octets : List ℕ) → result_ok (decode_of digits) ≡ Some octets → digits_of digits ≡ digits
as_they_stand digits octets spell =
    elim (eqb_tells (get_or digits (length digits - 1) 0) 10) [
      | inl same ↦ absurd (no_feed digits octets (some_of (decode_of digits) octets spell) same.1)
      | inr other ↦ ap (λ (b : Bool). without_feed b digits) other.0
    ]

pub spelled : (input octets : List ℕ) → IsSpelling input octets → hexadecimal input ≡ Some octets
spelled input octets s = ap (λ (d : List ℕ). result_ok (decode_of d)) (digits s.are) ∙ s.spell
  where
    digits : (input ≡ s.digits) ⊎ (input ≡ s.digits ++ 10 ∷ []) → digits_of input ≡ s.digits
    digits (inl is) = ap digits_of is ∙ as_they_stand s.digits octets s.spell
    digits (inr is) = ap digits_of is ∙ with_feed s.digits
