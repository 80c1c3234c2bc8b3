-- What is made of a text by entities is a text.
use Rattle.std.proofs.Common.{◌≡◌, ℕ, zero, suc, ◌<◌, ◌≤◌, Bool, true, ◌&&◌, nat_lt, List, [], ◌∷◌, ◌++◌, length, get_or, IsUtf8, inl, inr, refl, sym, ap₂, subst, arith, append-nil, ltb-true}
use Rattle.std.proofs.lemmas.Bool.{and_parts, cases_lt, cases_eq}
use Rattle.std.proofs.lemmas.Bool.Decides.{nat_tests}
use Rattle.std.proofs.lemmas.Grind.{flat_map-append}
use Rattle.std.proofs.lemmas.Str.{IsUtf8-append, IsUtf8-nil, IsUtf8-encode, encode_ascii, inside_one}
use Rattle.std.specs.List.{flat_map}
use Rattle.rpki_xml.specs.Spelling.{text_character, value_character, spelled_text, spelled_value}
use lib.Utf8.{scalar, scalars, encode, encodes, low_scalar}

ascii_then : (x : ℕ) (xs : List ℕ) → x < 128 → IsUtf8 xs → IsUtf8 (x ∷ xs)
ascii_then x xs small u = IsUtf8-append (x ∷ []) xs (subst IsUtf8 (encode_ascii x small) (IsUtf8-encode x (low_scalar x (omega arith)))) u

abbrev are_ascii : List ℕ → Bool
are_ascii [] = true
are_ascii (x ∷ xs) = nat_lt x 128 && are_ascii xs

ascii_text : (xs : List ℕ) → are_ascii xs ≡ true → IsUtf8 xs
ascii_text [] e = IsUtf8-nil
ascii_text (x ∷ xs) e = let p = and_parts _ _ e in ascii_then x xs (ltb-true _ _ p.0) (ascii_text xs p.1)

-- what is made of the octets below n is ASCII
abbrev made_below : (ℕ → List ℕ) → ℕ → Bool
made_below f zero = true
made_below f (suc n) = are_ascii (f n) && made_below f n

made_of : (f : ℕ → List ℕ) (n : ℕ) → made_below f n ≡ true → (x : ℕ) → x < n → are_ascii (f x) ≡ true
made_of f zero e x h = absurd (omega arith)
made_of f (suc n) e x h =
    let p = and_parts _ _ e in
    elim (cases_eq x n) [ inl same ↦ rw same p.0 | inr other ↦ made_of f n p.1 x (omega arith) ]

-- octets from 128 on stay
high_stay : (f : ℕ → List ℕ) → ((c : ℕ) → 128 ≤ c → f c ≡ c ∷ []) → (xs : List ℕ) → ((k : ℕ) → k < length xs → 128 ≤ get_or xs k 0) → flat_map f xs ≡ xs
high_stay f stays [] h = refl
high_stay f stays (x ∷ xs) h =
    ap₂ (λ (a b : List ℕ). a ++ b) (stays x (h 0 (omega arith))) (high_stay f stays xs (λ k below. h (suc k) (omega arith)))

one_char : (f : ℕ → List ℕ) → made_below f 128 ≡ true → ((c : ℕ) → 128 ≤ c → f c ≡ c ∷ []) → (c : ℕ) → scalar c ≡ true → IsUtf8 (flat_map f (encode c))
one_char f low stays c ok = elim (cases_lt c 128) [
  | inl small ↦ rw (encode_ascii c small, append-nil (f c)) (ascii_text _ (made_of f 128 low c small))
  | inr big ↦
      let high : (k : ℕ) → k < length (encode c) → 128 ≤ get_or (encode c) k 0 = λ k below. elim (cases_lt (get_or (encode c) k 0) 128) [
        | inl small ↦ absurd (omega (arith, inside_one c [] (encode c) k (sym (append-nil _)) below small))
        | inr h ↦ h
      ] in
      subst IsUtf8 (sym (high_stay f stays (encode c) high)) (IsUtf8-encode c ok)
]

all_chars : (f : ℕ → List ℕ) → made_below f 128 ≡ true → ((c : ℕ) → 128 ≤ c → f c ≡ c ∷ []) → (cs : List ℕ) → scalars cs ≡ true → IsUtf8 (flat_map f (encodes cs))
all_chars f low stays [] e = IsUtf8-nil
all_chars f low stays (c ∷ cs) e =
    let p = and_parts _ _ e in
    subst IsUtf8 (sym (flat_map-append f (encode c) (encodes cs))) (IsUtf8-append _ _ (one_char f low stays c p.0) (all_chars f low stays cs p.1))

of_text : (f : ℕ → List ℕ) → made_below f 128 ≡ true → ((c : ℕ) → 128 ≤ c → f c ≡ c ∷ []) → (s : List ℕ) → IsUtf8 s → IsUtf8 (flat_map f s)
of_text f low stays s u = subst (λ l. IsUtf8 (flat_map f l)) u.1.1 (all_chars f low stays u.0 u.1.0)

text_stays : (c : ℕ) → 128 ≤ c → text_character c ≡ c ∷ []
text_stays c h = grind (arith, nat_tests)

value_stays : (c : ℕ) → 128 ≤ c → value_character c ≡ c ∷ []
value_stays c h = grind (arith, nat_tests)

pub text_is_text : (s : List ℕ) → IsUtf8 s → IsUtf8 (spelled_text s)
unfolding spelled_text
text_is_text s u = of_text text_character refl text_stays s u

pub value_is_text : (s : List ℕ) → IsUtf8 s → IsUtf8 (spelled_value s)
unfolding spelled_value
value_is_text s u = of_text value_character refl value_stays s u
