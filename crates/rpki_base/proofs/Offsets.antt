-- Times in the form of RFC 3339.
use Rattle.std.proofs.Common.{◌≡◌, ℕ, ◌+◌, ◌<◌, ◌≤◌, true, false, List, [], ◌∷◌, length, drop, get_or, refl, ap, ◌∙◌, arith, add-one, take, length-drop, ◌-◌, ◌++◌, ◌/◌, ◌%◌, Some, ℤ, pos, neg_ℤ, ◌-ℤ◌, w64, to_z, of_z, inl, inr}
use Rattle.std.specs.Prelude.{codes, int_le}
use Rattle.std.specs.Str.{IsAscii}
use Rattle.std.proofs.lemmas.Str.Ascii.{IsAscii-cons, IsAscii-nil}
use Rattle.jiff_core.specs.Calendar.{IsWithin}
use Rattle.jiff_core.proofs.SignedLemmas.{signed_arith, back_small, one_part, unsigned_abs-parts}
use Rattle.rpki_common.specs.Chaining.{◌>>=◌}
use Rattle.rpki_base.specs.declared.civil.Civil.{Civil}
use Rattle.rpki_base.specs.Civil.{moment, IsMoment, civil_at}
use Rattle.rpki_base.specs.TimeText.{two, FitsDigits, rfc3339_text}
use Rattle.rpki_base.specs.Rfc3339.{rfc3339_time, in_range}
use Rattle.rpki_base.proofs.Civils.{civil_at_is, moment_some}
use Rattle.rpki_base.proofs.Times.{two_read, four_read, fits_digits}
use Rattle.std.specs.Char.{is_ascii_digit}
use Rattle.std.proofs.Math.Seq.{drop-cons}
use Rattle.std.proofs.lemmas.List.{drop_all, take_all}
use Rattle.rpki_base.specs.Rfc3339.{past_digits}

pub digit_goes : (l : List ℕ) (i : ℕ) → i < length l → is_ascii_digit (get_or l i 0) ≡ true → past_digits (drop i l) ≡ past_digits (drop (i + 1) l)
unfolding past_digits
digit_goes l i lt e = rw (drop-cons l i 0, e, add-one) refl

stays : (l : List ℕ) (i : ℕ) → i < length l → is_ascii_digit (get_or l i 0) ≡ false → drop i l ≡ past_digits (drop i l)
unfolding past_digits
stays l i lt e = rw (drop-cons l i 0, e) refl

pub digits_end : (l : List ℕ) (i : ℕ) → i < length l → is_ascii_digit (get_or l i 0) ≡ false → take (length l - i) (drop i l) ≡ past_digits (drop i l)
unfolding past_digits
digits_end l i lt e = take_all (length l - i) (drop i l) (simp length-drop (omega arith)) ∙ stays l i lt e

pub all_digits : (l : List ℕ) (i : ℕ) → length l ≤ i → past_digits (drop i l) ≡ []
unfolding past_digits
all_digits l i le = rw (drop_all i l) refl

-- ---- numbers that the machine holds

small_back : (z : ℤ) → IsWithin 1000000000000 z → to_z w64 (of_z w64 z) ≡ z
small_back z h = back_small w64 z (elim (one_part z) [ inl e ↦ omega (arith, signed_arith, unsigned_abs-parts z, e, h.0, h.1) | inr e ↦ omega (arith, signed_arith, unsigned_abs-parts z, e, h.0, h.1) ])

pub difference_back : (l a : ℤ) → IsMoment l → IsWithin 4294967296 a → to_z w64 (of_z w64 (to_z w64 (of_z w64 l) -ℤ to_z w64 (of_z w64 a))) ≡ l -ℤ a
difference_back l a h g =
    let p = small_back l (omega (arith, signed_arith, h.0), omega (arith, signed_arith, h.1)) in
    let q = small_back a (omega (arith, signed_arith, g.0), omega (arith, signed_arith, g.1)) in
    let r = small_back (l -ℤ a) (omega (arith, signed_arith, h.0, g.1), omega (arith, signed_arith, h.1, g.0)) in
    rw (p, q) r

-- ---- what is written is text, and is read again

ascii_two : (n : ℕ) (rest : List ℕ) → n < 100 → IsAscii rest → IsAscii (two n ++ rest)
ascii_two n rest lt h = IsAscii-cons (48 + n / 10) ((48 + n % 10) ∷ rest) (omega (arith, lt)) (IsAscii-cons (48 + n % 10) rest (omega arith) h)

pub text_is_ascii : (c : Civil) → FitsDigits c → IsAscii (rfc3339_text c)
text_is_ascii c h =
    let z : List ℕ = codes "Z" in
    let minutes : List ℕ = 58 ∷ (two c.second ++ z) in
    let hours : List ℕ = 58 ∷ (two c.minute ++ minutes) in
    let days : List ℕ = 84 ∷ (two c.hour ++ hours) in
    let months : List ℕ = 45 ∷ (two c.day ++ days) in
    let years : List ℕ = 45 ∷ (two c.month ++ months) in
    let a : IsAscii z = IsAscii-cons 90 [] (omega arith) IsAscii-nil in
    let b : IsAscii minutes = IsAscii-cons 58 (two c.second ++ z) (omega arith) (ascii_two c.second z h.5 a) in
    let d : IsAscii hours = IsAscii-cons 58 (two c.minute ++ minutes) (omega arith) (ascii_two c.minute minutes h.4 b) in
    let e : IsAscii days = IsAscii-cons 84 (two c.hour ++ hours) (omega arith) (ascii_two c.hour hours h.3 d) in
    let f : IsAscii months = IsAscii-cons 45 (two c.day ++ days) (omega arith) (ascii_two c.day days h.2 e) in
    let g : IsAscii years = IsAscii-cons 45 (two c.month ++ months) (omega arith) (ascii_two c.month months h.1 f) in
    ascii_two (c.year / 100) (two (c.year % 100) ++ years) (omega (arith, h.0)) (ascii_two (c.year % 100) years (omega arith) g)

in_range_is : (s : ℤ) → IsMoment s → in_range (s -ℤ pos 0) ≡ Some s
in_range_is s h =
    let z : s -ℤ pos 0 ≡ s = omega (arith, signed_arith) in
    let a : int_le (neg_ℤ (pos 62167219200)) s ≡ true = grind (arith, signed_arith, h.0) in
    let b : int_le s (pos 253402300799) ≡ true = grind (arith, signed_arith, h.1) in
    ap in_range z ∙ (rw (a, b) refl)

text_read : (c : Civil) (s : ℤ) → FitsDigits c → moment c ≡ Some s → IsMoment s → rfc3339_time (rfc3339_text c) ≡ Some s
unfolding rfc3339_time ◌>>=◌
text_read c s h e m =
    let behind_second : List ℕ = codes "Z" in
    let behind_minute : List ℕ = 58 ∷ (two c.second ++ behind_second) in
    let behind_hour : List ℕ = 58 ∷ (two c.minute ++ behind_minute) in
    let behind_day : List ℕ = 84 ∷ (two c.hour ++ behind_hour) in
    let behind_month : List ℕ = 45 ∷ (two c.day ++ behind_day) in
    let behind_year : List ℕ = 45 ∷ (two c.month ++ behind_month) in
    rw (four_read c.year behind_year h.0, two_read c.month behind_month h.1, two_read c.day behind_day h.2, two_read c.hour behind_hour h.3, two_read c.minute behind_minute h.4, two_read c.second behind_second h.5, e) (in_range_is s m)

pub rfc3339_again : (s : ℤ) → IsMoment s → rfc3339_time (rfc3339_text (civil_at s)) ≡ Some s
rfc3339_again s h = let m = civil_at_is s h in text_read (civil_at s) s (fits_digits (civil_at s) s m) (moment_some (civil_at s) s m) h
