-- Dates by their days, and moments by their dates.
use Rattle.std.proofs.Common.{◌≡◌, ℕ, ◌+◌, ◌*◌, ◌<◌, ◌≤◌, refl, ap, arith, ℤ, pos, neg_ℤ, ◌≤ℤ◌, ◌+ℤ◌, ◌*ℤ◌}
use Rattle.std.specs.Prelude.{true, nat_le, ◌&&◌}
use Rattle.std.proofs.lemmas.Bool.{leb-true}
use Rattle.std.proofs.lemmas.Int.{by_lt_z}
use Rattle.jiff_core.specs.declared.civil.date.Date.{Date}
use Rattle.jiff_core.specs.Calendar.{day_count}
use Rattle.jiff_core.specs.Date.{epoch_day}
use Rattle.jiff_core.proofs.CalendarLemmas.{days_from_civil-day_count, day_count-lt_year, day_count-later_year, day_count-day_of_year}
use Rattle.jiff_core.proofs.MarchLemmas.{day_count-early}
use Rattle.jiff_core.proofs.DateLemmas.{civil, epoch_day_range}
use Rattle.jiff_core.proofs.SignedLemmas.{signed_arith}
use Rattle.rpki_base.specs.Civil.{IsMoment}
use Rattle.rpki_common.proofs.Truths.{both}

pub day_count-zero : day_count (pos 0) 1 1 ≡ 3652425
day_count-zero = day_count-early (pos 0) 9999 1 1 refl (omega arith) (omega arith) (omega arith)

-- a date from 0000-01-01 on has no negative year
pub year_from : (d : Date) → neg_ℤ (pos 719528) ≤ℤ epoch_day d → pos 0 ≤ℤ d.year
year_from d h =
    by_lt_z d.year (pos 0)
    (λ lt. absurd (omega (arith, signed_arith, days_from_civil-day_count d.year d.month d.day, days_from_civil-day_count (pos 0) 1 1, day_count-zero, day_count-lt_year d.year d.month d.day (pos 0) 1 1 (civil d) (omega arith) lt, h)))
    (λ le. le)

-- the first day of a year is none after another of it
first_of_year : (y : ℤ) (m d : ℕ) → 1 ≤ d → day_count y 1 1 ≤ day_count y m d
first_of_year y m d h = omega (arith, day_count-day_of_year y m d h)

since_zero : (y : ℤ) → pos 0 ≤ℤ y → day_count (pos 0) 1 1 ≤ day_count y 1 1
since_zero y h =
    by_lt_z (pos 0) y
    (λ lt. omega (arith, day_count-later_year (pos 0) y (omega (arith, signed_arith)) lt))
    (λ le. let e : pos 0 ≡ y = omega (arith, signed_arith, le, h) in let k = ap (λ (z : ℤ). day_count z 1 1) e in omega (arith, k))

-- a date with no negative year is from 0000-01-01 on
pub day_from : (d : Date) → pos 0 ≤ℤ d.year → neg_ℤ (pos 719528) ≤ℤ epoch_day d
day_from d h =
    omega (arith, signed_arith, days_from_civil-day_count d.year d.month d.day, day_count-zero, since_zero d.year h, first_of_year d.year d.month d.day (civil d).2.0)

pub moment_range : (d : Date) (n : ℕ) → pos 0 ≤ℤ d.year → n < 86400 → IsMoment (epoch_day d *ℤ pos 86400 +ℤ pos n)
moment_range d n h lt = let low = day_from d h in let range = epoch_day_range d in omega (arith, signed_arith, low, range.1, lt)

-- a clock's second of the day
pub clock_below : (hour minute second : ℕ) → nat_le hour 23 && nat_le minute 59 && nat_le second 59 ≡ true → hour * 3600 + minute * 60 + second < 86400
clock_below hour minute second h =
    let k = both (nat_le hour 23 && nat_le minute 59) (nat_le second 59) h in
    let l = both (nat_le hour 23) (nat_le minute 59) k.0 in
    omega (arith, leb-true hour 23 l.0, leb-true minute 59 l.1, leb-true second 59 k.1)
