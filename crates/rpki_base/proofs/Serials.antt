-- Serial numbers in twenty octets.
use Rattle.std.proofs.Common.{◌≡◌, ℕ, suc, ◌+◌, ◌-◌, ◌<◌, ◌≤◌, true, false, Option, None, Some, List, [], ◌∷◌, ◌++◌, length, take, drop, replicate, refl, sym, ap, ◌∙◌, arith, append-nil}
use Rattle.std.specs.Prelude.{⊤, option_and_then, nat_lt}
use Rattle.std.proofs.Common.{get_or, ◌≢◌, ◌⊎◌, inl, inr, add-one, length-append}
use Rattle.std.proofs.lemmas.Bool.{lt-ltb, le-ltb, le-leb, ne_eqb}
use Rattle.std.proofs.lemmas.Bool.Decides.{eqb_tells, leb_tells}
use Rattle.std.proofs.Math.Seq.{drop-cons}
use Rattle.std.proofs.lemmas.List.{drop_all}
use Rattle.rpki_der.specs.Tags.{integer_tag}
use Rattle.rpki_der.specs.Number.{minimal, integer}
use Rattle.rpki_der.specs.Grammar.{primitive, so}
use Rattle.rpki_common.specs.Chaining.{◌>>=◌}
use Rattle.rpki_der.specs.Writing.{primitive_value, der_primitive}
use Rattle.rpki_der.specs.declared.mode.Mode.{Mode}
use Rattle.rpki_der.specs.Value.{Value, Begins}
use Rattle.rpki_der.specs.Whole.{alone, whole_of}
use Rattle.rpki_der.specs.Identifier.{IsTag}
use Rattle.rpki_der.proofs.Written.{begins_primitive}
use Rattle.rpki_base.specs.Serial.{significant, unsigned_content, serial_content, serial, in_twenty, serial_number}
use native.Mathlib.Numerals.{unary_clauses}
use borrow.Rule.Slice.PartMut.{put_mid}
use Rattle.std.proofs.lemmas.List.{take-replicate, drop-replicate, take-append-drop, length-replicate}
use Rattle.std.proofs.lemmas.Slice.{take-put_mid, drop-put_mid}

none_left : (n k : ℕ) → n ≤ k → drop k (replicate {A = ℕ} n 0) ≡ []
none_left n k le = let e : n - k ≡ 0 = omega (arith, le) in drop-replicate {X = ℕ} k n 0 ∙ ap (λ (m : ℕ). replicate {A = ℕ} m 0) e

mid_zeros : (n a k : ℕ) (ys : List ℕ) → a + k ≡ n → length ys ≡ k → put_mid a k (replicate n 0) ys ≡ replicate a 0 ++ ys
mid_zeros n a k ys e l =
    let zeros : List ℕ = replicate n 0 in
    let long : length zeros ≡ n = length-replicate n 0 in
    let first : take n (put_mid a k zeros ys) ≡ take a zeros ++ ys = take-put_mid a k zeros ys n (omega (arith, e, l)) (omega (arith, e, long)) in
    let last : drop n (put_mid a k zeros ys) ≡ drop n zeros = drop-put_mid a k zeros ys n (omega (arith, e)) (omega (arith, e, long)) l in
    let front : take n (put_mid a k zeros ys) ≡ replicate a 0 ++ ys = first ∙ ap (λ (x : List ℕ). x ++ ys) (take-replicate {X = ℕ} a n 0 (omega (arith, e))) in
    let back : drop n (put_mid a k zeros ys) ≡ [] = last ∙ none_left n n (omega arith) in
    let both : take n (put_mid a k zeros ys) ++ drop n (put_mid a k zeros ys) ≡ (replicate a 0 ++ ys) ++ [] = cc (front, back) in
    sym (take-append-drop n (put_mid a k zeros ys)) ∙ both ∙ append-nil (replicate a 0 ++ ys)

-- the last octets of twenty are written over zeros
pub in_twenty_zeros : (xs ys : List ℕ) → length xs ≤ 20 → ys ≡ xs → put_mid (20 - length xs) (20 - (20 - length xs)) (replicate 20 0) ys ≡ replicate (20 - length xs) 0 ++ xs
in_twenty_zeros xs ys le e =
    let l = ap length e in
    mid_zeros 20 (20 - length xs) (20 - (20 - length xs)) ys (omega (arith, le)) (omega (arith, le, l)) ∙ ap (λ (l : List ℕ). replicate {A = ℕ} (20 - length xs) 0 ++ l) e

-- ---- the contents in the fewest octets

-- a first octet that neither can go nor needs 00 in front
trim_nonzero : (a : ℕ) (m : List ℕ) → a ≢ 0 → a < 128 → unsigned_content (significant (a ∷ m)) ≡ a ∷ m
unfolding significant
trim_nonzero a m nz small = rw (ne_eqb a 0 nz, lt-ltb a 128 small) refl

-- 00 in front of an octet that needs it
trim_big : (a b : ℕ) (m : List ℕ) → a ≡ 0 → 128 ≤ b → unsigned_content (significant (a ∷ b ∷ m)) ≡ a ∷ b ∷ m
unfolding significant
trim_big a b m z h = rw (z, ne_eqb b 0 (λ e. absurd (omega (arith, e, h))), le-ltb b 128 h) refl

-- one octet alone
trim_one : (a : ℕ) → a < 128 → unsigned_content (significant (a ∷ [])) ≡ a ∷ []
unfolding significant
trim_one a small = elim (eqb_tells a 0) [ inl w ↦ rw (w.0, w.1) refl | inr w ↦ trim_nonzero a [] w.1 small ]

pub stop_first : (l : List ℕ) (i : ℕ) → i < length l → get_or l i 0 < 128 → get_or l i 0 ≢ 0 → unsigned_content (significant (drop i l)) ≡ drop i l
stop_first l i lt small nz = rw (drop-cons l i 0) (trim_nonzero (get_or l i 0) (drop (suc i) l) nz small)

pub stop_second : (l : List ℕ) (i : ℕ) → suc i < length l → get_or l i 0 ≡ 0 → 128 ≤ get_or l (i + 1) 0 → unsigned_content (significant (drop i l)) ≡ drop i l
stop_second l i lt z big =
    let here : i < length l = omega arith in
    let next : 128 ≤ get_or l (suc i) 0 = simp unary_clauses at big in
    rw (drop-cons l i 0, drop-cons l (suc i) 0) (trim_big (get_or l i 0) (get_or l (suc i) 0) (drop (suc (suc i)) l) z next)

pub stop_last : (l : List ℕ) (i : ℕ) → length l ≡ suc i → get_or l i 0 < 128 → unsigned_content (significant (drop i l)) ≡ drop i l
stop_last l i e small =
    let here : i < length l = omega (arith, e) in
    let none : drop (suc i) l ≡ [] = drop_all (suc i) l (omega (arith, e)) in
    rw (drop-cons l i 0, none) (trim_one (get_or l i 0) small)

-- a zero in front is none of the contents
pub zero_goes : (l : List ℕ) (i : ℕ) → i < length l → get_or l i 0 ≡ 0 → significant (drop i l) ≡ significant (drop (i + 1) l)
unfolding significant
zero_goes l i lt e = rw (drop-cons l i 0, e, add-one) refl

-- ---- the contents are read as the serial number

-- a first octet that isn't zero
abbrev IsTrimmed : List ℕ → Type 0
IsTrimmed [] = ⊤
IsTrimmed (a ∷ m) = a ≢ 0

in_front : (l : List ℕ) → (k : ℕ) × (l ≡ replicate k 0 ++ significant l) × IsTrimmed (significant l)
unfolding significant
in_front [] = (0, refl, tt)
in_front (a ∷ m) =
    let w = in_front m in
    elim (eqb_tells a 0) [
      | inl h ↦ (suc w.0, (let e : a ∷ m ≡ 0 ∷ (replicate w.0 0 ++ significant m) = cc (h.1, w.1) in rw h.0 e), rw h.0 w.2)
      | inr h ↦ (0, rw h.0 refl, rw h.0 h.1)
    ]

minimal_small : (a : ℕ) (m : List ℕ) → a ≢ 0 → a < 128 → minimal (a ∷ m) ≡ Some (a ∷ m)
minimal_small a [] nz small = refl
minimal_small a (b ∷ m) nz small = rw (ne_eqb a 0 nz, ne_eqb a 255 (λ e. absurd (omega (arith, e, small)))) refl

minimal_big : (a : ℕ) (m : List ℕ) → 128 ≤ a → minimal (0 ∷ a ∷ m) ≡ Some (0 ∷ a ∷ m)
minimal_big a m big = rw (le-ltb a 128 big) refl

fills : (k : ℕ) (w : List ℕ) → k + length w ≡ 20 → in_twenty w ≡ Some (replicate k 0 ++ w)
fills k w e =
    let fits : length w ≤ 20 = omega (arith, e) in
    let room : 20 - length w ≡ k = omega (arith, e) in
    rw (le-leb (length w) 20 fits, room) refl

sign_tells : (a : ℕ) → ((nat_lt a 128 ≡ true) × (a < 128)) ⊎ ((nat_lt a 128 ≡ false) × (128 ≤ a))
sign_tells a = elim (leb_tells (suc a) 128) [ inl h ↦ inl (h.0, h.1) | inr h ↦ inr (h.0, omega (arith, h.1)) ]

read_trimmed : (k : ℕ) (w : List ℕ) → k + length w ≡ 20 → IsTrimmed w → serial (primitive_value integer_tag (unsigned_content w)) ≡ Some (replicate k 0 ++ w)
unfolding serial integer so ◌>>=◌
read_trimmed k [] e t = fills k [] e
read_trimmed k (a ∷ m) e t =
    elim (sign_tells a) [
      | inl h ↦ rw (h.0, minimal_small a m t h.1, h.0, ne_eqb a 0 t) (fills k (a ∷ m) e)
      | inr h ↦ rw (h.0, minimal_big a m h.1) (fills k (a ∷ m) e)
    ]

pub serial_again : (l : List ℕ) → length l ≡ 20 → serial (primitive_value integer_tag (serial_content l)) ≡ Some l
serial_again l e =
    let w = in_front l in
    let long : w.0 + length (significant l) ≡ 20 = omega (arith, simp (length-append, length-replicate) at (ap length w.1), e) in
    read_trimmed w.0 (significant l) long w.2 ∙ ap Some (sym w.1)

integer_is_tag : IsTag integer_tag
integer_is_tag = ((λ e. omega (arith, e), λ e. omega (arith, e), λ e. omega (arith, e)), refl)

-- the contents are one octet longer at most
content_short : (l : List ℕ) → length (unsigned_content l) ≤ suc (length l)
content_short [] = omega arith
content_short (a ∷ m) = elim (sign_tells a) [ inl h ↦ rw h.0 (omega arith) | inr h ↦ rw h.0 (omega arith) ]

pub serial_begins : (mode : Mode) (l rest : List ℕ) → length l ≡ 20 → Begins mode (der_primitive integer_tag (serial_content l) ++ rest) (primitive_value integer_tag (serial_content l)) rest
serial_begins mode l rest e =
    let w = in_front l in
    let long : w.0 + length (significant l) ≡ 20 = omega (arith, simp (length-append, length-replicate) at (ap length w.1), e) in
    begins_primitive mode integer_tag (serial_content l) rest integer_is_tag (omega (arith, content_short (significant l), long))

-- ---- the one value that octets are

chained : (o : Option (List ℕ)) → option_and_then serial_number o ≡ (o >>= serial_number)
unfolding ◌>>=◌
chained None = refl
chained (Some x) = refl

alone_some : (o : Option Value) (content : List ℕ) → Some content ≡ (o >>= primitive integer_tag) → option_and_then serial_number (minimal content) ≡ (o >>= serial)
unfolding serial integer so ◌>>=◌
alone_some None content e = absurd (let k : Some content ≡ None = e in cc)
alone_some (Some v) content e = rw (sym e) (chained (minimal content))

pub whole_some : (mode : Mode) (octets content : List ℕ) → Some content ≡ whole_of (primitive integer_tag) mode octets → option_and_then serial_number (minimal content) ≡ whole_of serial mode octets
unfolding whole_of
whole_some mode octets content e = alone_some (alone mode octets) content e

alone_none : (o : Option Value) → None ≡ (o >>= primitive integer_tag) → None ≡ (o >>= serial)
unfolding serial integer so ◌>>=◌
alone_none None e = refl
alone_none (Some v) e = rw (sym e) refl

pub whole_none : (mode : Mode) (octets : List ℕ) → None ≡ whole_of (primitive integer_tag) mode octets → None ≡ whole_of serial mode octets
unfolding whole_of
whole_none mode octets e = alone_none (alone mode octets) e
