-- Octets that are answers.
use Rattle.std.proofs.Common.{◌≡◌, ◌<◌, ◌≤◌, ℕ, zero, suc, Bool, true, false, List, [], ◌∷◌, arith, length, get_or, map, sym, subst}
use Rattle.rpki_c.specs.Arguments.{octet_of}

octet_is_low : (b : Bool) → octet_of b < 2
octet_is_low true = omega arith
octet_is_low false = omega arith

none_below : (j : ℕ) → j < 0 → ⊥
none_below j below = omega arith

below_too : (j n : ℕ) → suc j < suc n → j < n
below_too j n below = omega arith

-- each octet that is an answer is below 2
answer_is_low : (values : List Bool) (i : ℕ) → i < length (map octet_of values) → get_or (map octet_of values) i 0 < 2
answer_is_low [] i lt = absurd (none_below i lt)
answer_is_low (b ∷ more) zero lt = octet_is_low b
answer_is_low (b ∷ more) (suc i) lt = answer_is_low more i (below_too i (length (map octet_of more)) lt)

-- octets, of which one is 2 or more, are no answers
pub no_answers : (octets : List ℕ) (i : ℕ) → i < length octets → 2 ≤ get_or octets i 0 → (values : List Bool) → octets ≡ map octet_of values → ⊥
no_answers octets i lt high values is =
    let low : get_or octets i 0 < 2 = subst (λ (l : List ℕ). i < length l → get_or l i 0 < 2) (sym is) (answer_is_low values i) lt in
    omega (arith, low, high)
