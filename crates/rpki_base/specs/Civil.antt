-- Dates with a time of day, and the seconds since 1970 at which they are.
use Rattle.std.specs.Prelude.{ℕ, zero, suc, ◌+◌, ◌-◌, ◌*◌, ◌/◌, ◌%◌, ◌&&◌, nat_le, nat_lt, unsigned_abs, Bool, if◌then◌else◌, Option, None, Some, ℤ, pos, neg_ℤ, ◌+ℤ◌, ◌*ℤ◌}
use Rattle.jiff_core.specs.Calendar.{days_from_civil, days_in_month, days_in_year, IsBetween}
use Rattle.rpki_base.specs.declared.civil.Civil.{Civil}

-- the calendar has this date, in years 0 to 9999
abbrev pub is_date : Civil → Bool
is_date c = nat_le c.year 9999 && (nat_le 1 c.month && nat_le c.month 12) &&
    (nat_le 1 c.day && nat_le c.day (days_in_month (pos c.year) c.month))

-- the clock shows this time; there is no second 60
abbrev pub is_clock : Civil → Bool
is_clock c = nat_le c.hour 23 && nat_le c.minute 59 && nat_le c.second 59

-- seconds since 1970-01-01T00:00:00Z
unfoldable pub seconds_of : Civil → ℤ
seconds_of c = days_from_civil (pos c.year) c.month c.day *ℤ pos 86400 +ℤ pos
    (c.hour * 3600 + c.minute * 60 + c.second)

-- seconds since 1970-01-01T00:00:00Z, where there is this date and this time of day
unfoldable pub moment : Civil → Option ℤ
moment c = if is_date c && is_clock c then Some (seconds_of c) else None

-- the seconds of the years 0 to 9999
abbrev pub IsMoment : ℤ → Type 0
IsMoment seconds = IsBetween (neg_ℤ (pos 62167219200)) (pos 253402300799) seconds

-- ---- back to the date, by taking whole years and then whole months off; known by its law,
-- `civil_at_is`

-- the year that a day lies in, by the days from 1 January of a year up to it, and the days from 1
-- January of that one
unfoldable pub year_and_days : ℕ → ℕ → ℕ → ℕ × ℕ
year_and_days zero year days = (year, days)
year_and_days (suc k) year days =
    if nat_lt days (days_in_year (pos year)) then (year, days)
    else year_and_days k (suc year) (days - days_in_year (pos year))

-- the month of a year that a day lies in, by the days from the first of a month up to it, and the
-- days from the first of that one
unfoldable pub month_and_days : ℕ → ℕ → ℕ → ℕ → ℕ × ℕ
month_and_days zero year month days = (month, days)
month_and_days (suc k) year month days =
    if nat_lt days (days_in_month (pos year) month) then (month, days)
    else month_and_days k year (suc month) (days - days_in_month (pos year) month)

-- this date, and this second of the day
abbrev pub civil_on : ℕ → ℕ → ℕ → ℕ → Civil
civil_on year month day second =
    record {
      year = year;
      month = month;
      day = day;
      hour = second / 3600;
      minute = second / 60 % 60;
      second = second % 60;
    }

-- the date and the time of day, by the year with the days of it that are past, and the second of
-- the day
abbrev pub civil_in : ℕ × ℕ → ℕ → Civil
civil_in y second = let m = month_and_days 12 y.0 1 y.1 in civil_on y.0 m.0 (m.1 + 1) second

-- the date and the time of day at so many seconds since 1970, for a moment of the years 0 to 9999
unfoldable pub civil_at : ℤ → Civil
civil_at seconds = civil_in (year_and_days 10000 0
    (unsigned_abs (seconds +ℤ pos 62167219200) / 86400))
    (unsigned_abs (seconds +ℤ pos 62167219200) % 86400)
