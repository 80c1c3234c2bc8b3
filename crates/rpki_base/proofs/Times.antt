-- Times that are written are read again.
use Rattle.std.proofs.Common.{◌≡◌, ℕ, ◌+◌, ◌*◌, ◌/◌, ◌%◌, ◌<◌, ◌≤◌, Bool, true, false, Some, ℤ, pos, List, ◌++◌, take, drop, inl, inr, refl, sym, ◌∙◌, arith}
use Rattle.std.specs.Prelude.{nat_le, if◌then◌else◌, codes}
use Rattle.std.specs.Char.{is_ascii_digit, digit_value}
use Rattle.std.proofs.lemmas.Bool.{leb-true, le-leb, lt-ltb, le-ltb}
use Rattle.rpki_common.specs.Chaining.{◌>>=◌}
use Rattle.rpki_der.specs.declared.mode.Mode.{Mode}
use Rattle.rpki_der.specs.Identifier.{IsTag}
use Rattle.rpki_der.specs.Tags.{utc_time_tag, generalized_time_tag}
use Rattle.rpki_der.specs.Value.{Value, Begins, spelling}
use Rattle.rpki_der.specs.Grammar.{so}
use Rattle.rpki_der.specs.Writing.{primitive_value, der_primitive}
use Rattle.rpki_der.proofs.Written.{begins_primitive}
use Rattle.rpki_base.specs.declared.civil.Civil.{Civil}
use Rattle.rpki_base.specs.Digits.{two_digits, four_digits}
use Rattle.rpki_base.specs.Civil.{moment, IsMoment, civil_at}
use Rattle.rpki_base.specs.Time.{in_year, full_year, utc_time, generalized_time, time}
use Rattle.rpki_base.specs.TimeText.{two, four, FitsDigits, month_to_second, utc_text, generalized_text, is_utc_year, time_value, der_time}
use Rattle.jiff_core.proofs.CalendarLemmas.{days_in_month_bounds}
use Rattle.rpki_common.proofs.Truths.{both}
use Rattle.rpki_base.proofs.Civils.{IsMomentOf, moment_some, civil_at_is, tells}
use Rattle.rpki_base.proofs.Choosing.{utc_reads, generalized_reads}

-- ---- digits

is_digit : (k : ℕ) → k < 10 → is_ascii_digit (48 + k) ≡ true
is_digit k lt = let a : 48 ≤ 48 + k = omega arith in let b : 48 + k ≤ 57 = omega (arith, lt) in rw (le-leb 48 (48 + k) a, le-leb (48 + k) 57 b) refl

digit_is : (k : ℕ) → k < 10 → digit_value (48 + k) ≡ k
digit_is k lt = let a : 48 ≤ 48 + k = omega arith in let b : 48 + k < 58 = omega (arith, lt) in rw (le-ltb (48 + k) 48 a, lt-ltb (48 + k) 58 b) (omega arith)

pub two_read : (n : ℕ) (rest : List ℕ) → n < 100 → two_digits (two n ++ rest) ≡ Some (n, rest)
two_read n rest lt =
    let high : n / 10 < 10 = omega (arith, lt) in
    let low : n % 10 < 10 = omega arith in
    let whole : 10 * (n / 10) + n % 10 ≡ n = omega arith in
    rw (is_digit (n / 10) high, is_digit (n % 10) low, digit_is (n / 10) high, digit_is (n % 10) low, whole) refl

pub four_read : (n : ℕ) (rest : List ℕ) → n < 10000 → four_digits (four n ++ rest) ≡ Some (n, rest)
unfolding four_digits ◌>>=◌
four_read n rest lt =
    let high : n / 100 < 100 = omega (arith, lt) in
    let low : n % 100 < 100 = omega arith in
    let whole : 100 * (n / 100) + n % 100 ≡ n = omega arith in
    rw (two_read (n / 100) (two (n % 100) ++ rest) high, two_read (n % 100) rest low, whole) refl

-- ---- a date with a time of day

in_year_read : (c : Civil) → FitsDigits c → in_year c.year (month_to_second c) ≡ moment c
unfolding in_year ◌>>=◌
in_year_read c h =
    rw (two_read c.month (two c.day ++ (two c.hour ++ (two c.minute ++ (two c.second ++ codes "Z")))) h.1, two_read c.day (two c.hour ++ (two c.minute ++ (two c.second ++ codes "Z"))) h.2, two_read c.hour (two c.minute ++ (two c.second ++ codes "Z")) h.3, two_read c.minute (two c.second ++ codes "Z") h.4, two_read c.second (codes "Z") h.5) refl

full_year_is : (y : ℕ) → is_utc_year y ≡ true → full_year (y % 100) ≡ y
full_year_is y h =
    let p = both (nat_le 1950 y) (nat_le y 2049) h in
    let low = leb-true 1950 y p.0 in
    let high = leb-true y 2049 p.1 in
    elim (tells (y % 100) 50) [ inl t ↦ rw t.0 (omega (arith, low, high, t.1)) | inr t ↦ rw t.0 (omega (arith, low, high, t.1)) ]

utc_read : (c : Civil) → FitsDigits c → is_utc_year c.year ≡ true → utc_time (utc_text c) ≡ moment c
unfolding utc_time ◌>>=◌
utc_read c h t = rw (two_read (c.year % 100) (month_to_second c) (omega arith), full_year_is c.year t) (in_year_read c h)

generalized_read : (c : Civil) → FitsDigits c → generalized_time (generalized_text c) ≡ moment c
unfolding generalized_time ◌>>=◌
generalized_read c h = rw (four_read c.year (month_to_second c) h.0) (in_year_read c h)

-- ---- as values

pub fits_digits : (c : Civil) (s : ℤ) → IsMomentOf c s → FitsDigits c
fits_digits c s h =
    let p = h.civil' in
    (omega (arith, p.year), omega (arith, p.month.1), omega (arith, p.day.1, (days_in_month_bounds (pos c.year) c.month).0), omega (arith, p.hour), omega (arith, p.minute), omega (arith, p.second))

chosen_again : (b : Bool) (c : Civil) (s : ℤ) → is_utc_year c.year ≡ b → IsMomentOf c s → time (if b then primitive_value utc_time_tag (utc_text c) else primitive_value generalized_time_tag (generalized_text c)) ≡ Some s
unfolding so ◌>>=◌
chosen_again true c s e h = utc_reads (primitive_value utc_time_tag (utc_text c)) (utc_text c) s refl (utc_read c (fits_digits c s h) e ∙ moment_some c s h)
chosen_again false c s e h = generalized_reads (primitive_value generalized_time_tag (generalized_text c)) refl ∙ generalized_read c (fits_digits c s h) ∙ moment_some c s h

pub time_again : (s : ℤ) → IsMoment s → time (time_value s) ≡ Some s
unfolding time_value
time_again s h = chosen_again (is_utc_year (civil_at s).year) (civil_at s) s refl (civil_at_is s h)

utc_is_tag : IsTag utc_time_tag
utc_is_tag = ((λ e. omega (arith, e), λ e. omega (arith, e), λ e. omega (arith, e)), refl)

generalized_is_tag : IsTag generalized_time_tag
generalized_is_tag = ((λ e. omega (arith, e), λ e. omega (arith, e), λ e. omega (arith, e)), refl)

chosen_begins : (b : Bool) (mode : Mode) (c : Civil) (rest : List ℕ) → (let v : Value = if b then primitive_value utc_time_tag (utc_text c) else primitive_value generalized_time_tag (generalized_text c) in Begins mode (spelling v ++ rest) v rest)
chosen_begins true mode c rest = begins_primitive mode utc_time_tag (utc_text c) rest utc_is_tag (omega arith)
chosen_begins false mode c rest = begins_primitive mode generalized_time_tag (generalized_text c) rest generalized_is_tag (omega arith)

pub time_begins : (mode : Mode) (s : ℤ) (rest : List ℕ) → Begins mode (der_time s ++ rest) (time_value s) rest
unfolding der_time time_value
time_begins mode s rest = chosen_begins (is_utc_year (civil_at s).year) mode (civil_at s) rest

-- ---- what is written

pub utc_written : (c : Civil) (s : ℤ) (text : List ℕ) → c ≡ civil_at s → text ≡ generalized_text c → is_utc_year c.year ≡ true → der_primitive utc_time_tag (take 13 (drop 2 text)) ≡ der_time s
unfolding der_time time_value
utc_written c s text e t u = rw (sym e, t, u) refl

pub generalized_written : (c : Civil) (s : ℤ) (text : List ℕ) → c ≡ civil_at s → text ≡ generalized_text c → is_utc_year c.year ≡ false → der_primitive generalized_time_tag text ≡ der_time s
unfolding der_time time_value
generalized_written c s text e t u = rw (sym e, t, u) refl
