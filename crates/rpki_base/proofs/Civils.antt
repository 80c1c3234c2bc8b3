-- Moments and their dates: each moment of the years 0 to 9999 has one date with a time of day.
use Rattle.std.proofs.Common.{◌≡◌, ℕ, zero, suc, ◌+◌, ◌-◌, ◌*◌, ◌/◌, ◌%◌, ◌<◌, ◌≤◌, Bool, true, false, None, Some, ℤ, pos, negsuc, ◌≤ℤ◌, ◌+ℤ◌, ◌*ℤ◌, ◌⊎◌, inl, inr, refl, sym, ap, subst, ◌∙◌, arith, w64, to_z, of_z}
use Rattle.std.specs.Prelude.{nat_lt, nat_le, ◌&&◌, if◌then◌else◌, unsigned_abs}
use Rattle.std.specs.Int.{IsInRange}
use Rattle.std.proofs.lemmas.Bool.{leb-true, le-leb}
use Rattle.std.proofs.lemmas.Bool.Decides.{leb_tells}
use Rattle.jiff_core.specs.declared.civil.date.Date.{Date}
use Rattle.jiff_core.specs.Calendar.{day_count, days_from_civil, days_in_year, days_in_month}
use Rattle.jiff_core.specs.Date.{epoch_day}
use Rattle.jiff_core.proofs.CalendarLemmas.{days_from_civil-day_count, day_count-next_year, day_count-next_month, day_count-day, day_count-end, day_count-last_of_year}
use Rattle.jiff_core.proofs.DateLemmas.{epoch_day_injective}
use Rattle.jiff_core.proofs.SignedLemmas.{signed_arith, back_small, one_part, unsigned_abs-parts}
use Rattle.rpki_base.specs.declared.civil.Civil.{Civil}
use Rattle.rpki_base.specs.Civil.{is_date, is_clock, seconds_of, moment, IsMoment, year_and_days, month_and_days, civil_on, civil_at}
use Rattle.rpki_base.proofs.Years.{day_count-zero}
use Rattle.rpki_common.proofs.Truths.{both}

-- ---- a date that exists, and a clock

pub record IsCivil (c : Civil) : Type 0 where
  pub year : c.year ≤ 9999
  pub month : IsInRange 1 12 c.month
  pub day : IsInRange 1 (days_in_month (pos c.year) c.month) c.day
  pub hour : c.hour ≤ 23
  pub minute : c.minute ≤ 59
  pub second : c.second ≤ 59

pub civil_from : (c : Civil) → is_date c && is_clock c ≡ true → IsCivil c
civil_from c h =
    let p = both (is_date c) (is_clock c) h in
    let date = both (nat_le c.year 9999 && (nat_le 1 c.month && nat_le c.month 12)) (nat_le 1 c.day && nat_le c.day (days_in_month (pos c.year) c.month)) p.0 in
    let year = both (nat_le c.year 9999) (nat_le 1 c.month && nat_le c.month 12) date.0 in
    let month = both (nat_le 1 c.month) (nat_le c.month 12) year.1 in
    let day = both (nat_le 1 c.day) (nat_le c.day (days_in_month (pos c.year) c.month)) date.1 in
    let clock = both (nat_le c.hour 23 && nat_le c.minute 59) (nat_le c.second 59) p.1 in
    let hour = both (nat_le c.hour 23) (nat_le c.minute 59) clock.0 in
    record {
      year = leb-true c.year 9999 year.0;
      month = (leb-true 1 c.month month.0, leb-true c.month 12 month.1);
      day = (leb-true 1 c.day day.0, leb-true c.day (days_in_month (pos c.year) c.month) day.1);
      hour = leb-true c.hour 23 hour.0;
      minute = leb-true c.minute 59 hour.1;
      second = leb-true c.second 59 clock.1;
    }

pub civil_true : (c : Civil) → IsCivil c → is_date c && is_clock c ≡ true
civil_true c h = rw (le-leb c.year 9999 h.year, le-leb 1 c.month h.month.0, le-leb c.month 12 h.month.1, le-leb 1 c.day h.day.0, le-leb c.day (days_in_month (pos c.year) c.month) h.day.1, le-leb c.hour 23 h.hour, le-leb c.minute 59 h.minute, le-leb c.second 59 h.second) refl

if_some : (b : Bool) (x s : ℤ) → (if b then Some x else None) ≡ Some s → (b ≡ true) × (x ≡ s)
if_some true x s e = (refl, cc)
if_some false x s e = absurd (let k : None ≡ Some s = e in cc)

pub record IsMomentOf (c : Civil) (s : ℤ) : Type 0 where
  pub civil' : IsCivil c
  pub seconds : seconds_of c ≡ s

pub moment_from : (c : Civil) (s : ℤ) → moment c ≡ Some s → IsMomentOf c s
unfolding moment
moment_from c s e = let p = if_some (is_date c && is_clock c) (seconds_of c) s e in record { civil' = civil_from c p.0; seconds = p.1 }

pub moment_some : (c : Civil) (s : ℤ) → IsMomentOf c s → moment c ≡ Some s
unfolding moment
moment_some c s h = rw (civil_true c h.civil') (ap Some h.seconds)

-- ---- each moment has one date

abbrev date_of : (c : Civil) → IsCivil c → Date
date_of c h = record { year = pos c.year; month = c.month; day = c.day; year_in = (omega (arith, signed_arith), omega (arith, signed_arith, h.year)); month_in = h.month; day_in = h.day }

pos_apart : (m n : ℕ) → pos m ≡ pos n → m ≡ n
pos_apart m n e = cc

make : ℕ → ℕ → ℕ → ℕ → ℕ → ℕ → Civil
make y mo d h mi s = record { year = y; month = mo; day = d; hour = h; minute = mi; second = s }

same_parts : (y mo d h mi s y₂ mo₂ d₂ h₂ mi₂ s₂ : ℕ) → y ≡ y₂ → mo ≡ mo₂ → d ≡ d₂ → h ≡ h₂ → mi ≡ mi₂ → s ≡ s₂ → make y mo d h mi s ≡ make y₂ mo₂ d₂ h₂ mi₂ s₂
same_parts y mo d h mi s y₂ mo₂ d₂ h₂ mi₂ s₂ p q r t u v = cc

same_civil : (a b : Civil) → a.year ≡ b.year → a.month ≡ b.month → a.day ≡ b.day → a.hour ≡ b.hour → a.minute ≡ b.minute → a.second ≡ b.second → a ≡ b
unfolding make
same_civil a b p q r t u v = same_parts a.year a.month a.day a.hour a.minute a.second b.year b.month b.day b.hour b.minute b.second p q r t u v

abbrev clock_seconds : Civil → ℕ
clock_seconds c = c.hour * 3600 + c.minute * 60 + c.second

pub moment_is_one : (a b : Civil) (s : ℤ) → IsMomentOf a s → IsMomentOf b s → a ≡ b
unfolding seconds_of
moment_is_one a b s p q =
    let clock_a : clock_seconds a < 86400 = omega (arith, p.civil'.hour, p.civil'.minute, p.civil'.second) in
    let clock_b : clock_seconds b < 86400 = omega (arith, q.civil'.hour, q.civil'.minute, q.civil'.second) in
    let e = p.seconds ∙ sym q.seconds in
    let days : epoch_day (date_of a p.civil') ≡ epoch_day (date_of b q.civil') = omega (arith, signed_arith, e, clock_a, clock_b) in
    let dates = epoch_day_injective (date_of a p.civil') (date_of b q.civil') days in
    let clocks : clock_seconds a ≡ clock_seconds b = omega (arith, signed_arith, e, days) in
    let year = pos_apart a.year b.year dates.0 in
    let hour : a.hour ≡ b.hour = omega (arith, p.civil'.minute, p.civil'.second, q.civil'.minute, q.civil'.second, clocks) in
    let minute : a.minute ≡ b.minute = omega (arith, p.civil'.second, q.civil'.second, clocks, hour) in
    let second : a.second ≡ b.second = omega (arith, clocks, hour, minute) in
    same_civil a b year dates.1 dates.2 hour minute second

-- ---- the day of a date, by years and months

pub tells : (a b : ℕ) → ((nat_lt a b ≡ true) × (a < b)) ⊎ ((nat_lt a b ≡ false) × (b ≤ a))
tells a b = elim (leb_tells (suc a) b) [ inl h ↦ inl (h.0, h.1) | inr h ↦ inr (h.0, omega (arith, h.1)) ]

-- the day lies in the year, so many days behind 1 January
record InYear (count last year days : ℕ) : Type 0 where
  whole : day_count (pos year) 1 1 + days ≡ count
  short : days < days_in_year (pos year)
  before : year < last

next_year : (y : ℕ) → day_count (pos (suc y)) 1 1 ≡ day_count (pos y) 1 1 + days_in_year (pos y)
next_year y = day_count-next_year (pos y) (pos (suc y)) (omega (arith, signed_arith)) (omega (arith, signed_arith))

year_found : (k y last days : ℕ) → last ≡ k + y → day_count (pos y) 1 1 + days < day_count (pos last) 1 1 → InYear (day_count (pos y) 1 1 + days) last (year_and_days k y days).0 (year_and_days k y days).1
unfolding year_and_days
year_found zero y last days e lt =
    let is : last ≡ y = omega (arith, e) in
    let same = ap (λ (z : ℕ). day_count (pos z) 1 1) is in
    absurd (omega (arith, lt, same))
year_found (suc k) y last days e lt =
    elim (tells days (days_in_year (pos y))) [
      | inl h ↦ rw h.0 (record { whole = refl; short = h.1; before = omega (arith, e) })
      | inr h ↦
          let next = next_year y in
          let same : day_count (pos (suc y)) 1 1 + (days - days_in_year (pos y)) ≡ day_count (pos y) 1 1 + days = omega (arith, next, h.1) in
          let w = year_found k (suc y) last (days - days_in_year (pos y)) (omega (arith, e)) (omega (arith, same, lt)) in
          rw h.0 (record { whole = w.whole ∙ same; short = w.short; before = w.before })
    ]

record InMonth (count last year month days : ℕ) : Type 0 where
  whole : day_count (pos year) month 1 + days ≡ count
  short : days < days_in_month (pos year) month
  some : 1 ≤ month
  before : month < last

next_month : (y m : ℕ) → 1 ≤ m → day_count (pos y) (suc m) 1 ≡ day_count (pos y) m 1 + days_in_month (pos y) m
next_month y m h = let e : suc m ≡ m + 1 = omega arith in ap (λ (z : ℕ). day_count (pos y) z 1) e ∙ day_count-next_month (pos y) m h

month_found : (k y m last days : ℕ) → 1 ≤ m → last ≡ k + m → day_count (pos y) m 1 + days < day_count (pos y) last 1 → InMonth (day_count (pos y) m 1 + days) last y (month_and_days k y m days).0 (month_and_days k y m days).1
unfolding month_and_days
month_found zero y m last days some e lt =
    let is : last ≡ m = omega (arith, e) in
    let same = ap (λ (z : ℕ). day_count (pos y) z 1) is in
    absurd (omega (arith, lt, same))
month_found (suc k) y m last days some e lt =
    elim (tells days (days_in_month (pos y) m)) [
      | inl h ↦ rw h.0 (record { whole = refl; short = h.1; some = some; before = omega (arith, e) })
      | inr h ↦
          let next = next_month y m some in
          let same : day_count (pos y) (suc m) 1 + (days - days_in_month (pos y) m) ≡ day_count (pos y) m 1 + days = omega (arith, next, h.1) in
          let w = month_found k y (suc m) last (days - days_in_month (pos y) m) (omega arith) (omega (arith, e)) (omega (arith, same, lt)) in
          rw h.0 (record { whole = w.whole ∙ same; short = w.short; some = w.some; before = w.before })
    ]

year_end : (y : ℕ) → day_count (pos y) 13 1 ≡ day_count (pos y) 1 1 + days_in_year (pos y)
year_end y = omega (arith, next_month y 12 (omega arith), day_count-day (pos y) 12 31 1 (omega arith) (omega arith), day_count-last_of_year (pos y))

-- ---- the law of civil_at

civil_on_is : (y m d r count : ℕ) (s : ℤ) → y < 10000 → IsInRange 1 12 m → d < days_in_month (pos y) m → r < 86400 → day_count (pos y) m 1 + d ≡ count → pos (count * 86400 + r) ≡ s +ℤ pos (86400 * 4371953) → IsMomentOf (civil_on y m (d + 1) r) s
unfolding seconds_of
civil_on_is y m d r count s within month day clock e t =
    let exact = day_count-day (pos y) m (d + 1) 1 (omega arith) (omega arith) in
    record {
      civil' = record { year = omega (arith, within); month = month; day = (omega arith, omega (arith, day)); hour = omega (arith, clock); minute = omega arith; second = omega arith };
      seconds = omega (arith, signed_arith, days_from_civil-day_count (pos y) m (d + 1), exact, e, t);
    }

abs_of : (z : ℤ) → pos 0 ≤ℤ z → pos (unsigned_abs z) ≡ z
abs_of (pos n) h = refl
abs_of (negsuc n) h = absurd (omega (arith, signed_arith, h))

pub civil_at_is : (s : ℤ) → IsMoment s → IsMomentOf (civil_at s) s
unfolding civil_at
civil_at_is s h =
    let t = unsigned_abs (s +ℤ pos 62167219200) in
    let is : pos t ≡ s +ℤ pos 62167219200 = abs_of (s +ℤ pos 62167219200) (omega (arith, signed_arith, h.0)) in
    let low : t / 86400 < 3652425 = omega (arith, signed_arith, is, h.1) in
    let w = year_found 10000 0 10000 (t / 86400) refl (omega (arith, low, day_count-zero, day_count-end)) in
    let y = (year_and_days 10000 0 (t / 86400)).0 in
    let n = (year_and_days 10000 0 (t / 86400)).1 in
    let v = month_found 12 y 1 13 n (omega arith) refl (omega (arith, year_end y, w.short)) in
    civil_on_is y (month_and_days 12 y 1 n).0 (month_and_days 12 y 1 n).1 (t % 86400) (day_count (pos 0) 1 1 + t / 86400) s w.before (v.some, omega (arith, v.before)) v.short (omega arith) (v.whole ∙ w.whole) (omega (arith, signed_arith, is, day_count-zero))

-- what the library's date and the second of the day are
pub at_date : (d : Date) (y n : ℕ) (s : ℤ) → pos y ≡ d.year → n < 86400 → epoch_day d *ℤ pos 86400 +ℤ pos n ≡ s → IsMoment s → civil_on y d.month d.day n ≡ civil_at s
unfolding seconds_of
at_date d y n s e lt t h =
    let days = ap (λ (z : ℤ). days_from_civil z d.month d.day) e in
    moment_is_one (civil_on y d.month d.day n) (civil_at s) s
    (record {
      civil' = record { year = omega (arith, signed_arith, e, d.year_in.1); month = d.month_in; day = subst (λ (z : ℤ). IsInRange 1 (days_in_month z d.month) d.day) (sym e) d.day_in; hour = omega (arith, lt); minute = omega arith; second = omega arith };
      seconds = omega (arith, signed_arith, days, t);
    })
    (civil_at_is s h)

-- a moment as the machine's number is itself
pub moment_back : (s : ℤ) → IsMoment s → to_z w64 (of_z w64 s) ≡ s
moment_back s h = back_small w64 s (elim (one_part s) [ inl e ↦ omega (arith, signed_arith, unsigned_abs-parts s, e, h.0, h.1) | inr e ↦ omega (arith, signed_arith, unsigned_abs-parts s, e, h.0, h.1) ])
