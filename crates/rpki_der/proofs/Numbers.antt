-- Numbers of many octets.
use Rattle.std.proofs.Common.{◌≡◌, ℕ, ◌+◌, ◌*◌, ◌<◌, ◌≤◌, None, List, [], ◌∷◌, ◌++◌, length, take, drop, get_or, refl, sym, ap, subst, ◌∙◌, arith}
use Rattle.std.specs.Prelude.{fold}
use Rattle.std.proofs.lemmas.Bool.{le-ltb}
use Rattle.std.proofs.lemmas.List.{take-append-drop, drop_more}
use Rattle.std.proofs.lemmas.List.Sums.{fold-append}
use Rattle.rpki_der.specs.Lengths.{number}
use Rattle.rpki_der.specs.Number.{below_2_64}

grows : (n : ℕ) (octets : List ℕ) → n ≤ fold (λ n a. n * 256 + a) n octets
grows n [] = omega arith
grows n (a ∷ octets) = omega (arith, grows (n * 256 + a) octets)

number_on : (octets more : List ℕ) (a : ℕ) → number octets * 256 ≤ number (octets ++ a ∷ more)
number_on octets more a = rw (fold-append (λ n a. n * 256 + a) 0 octets (a ∷ more)) (omega (arith, grows (number octets * 256 + a) more))

-- where the first of the octets spell 2^56 or more, and one follows, all spell 2^64 or more
pub too_large : (octets : List ℕ) (i n : ℕ) → i < length octets → n ≡ number (take i octets) → 72057594037927936 ≤ n → None ≡ below_2_64 (number octets)
too_large octets i n within e large =
    let split : octets ≡ take i octets ++ (get_or octets i 0 ∷ drop (i + 1) octets) = sym (take-append-drop i octets) ∙ ap (λ o. take i octets ++ o) (drop_more octets i 0 within) in
    let on : number (take i octets) * 256 ≤ number octets = subst (λ o. number (take i octets) * 256 ≤ number o) (sym split) (number_on (take i octets) (drop (i + 1) octets) (get_or octets i 0)) in
    let more : n * 256 ≤ number octets = rw e on in
    rw (le-ltb (number octets) 18446744073709551616 (omega (arith, more, large))) refl
