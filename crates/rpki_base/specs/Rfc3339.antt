-- Times in the form of RFC 3339 (5.6), with `T` and `Z` in upper case, and a fraction of a second
-- that is cut off.
use Rattle.std.specs.Prelude.{ℕ, ◌+◌, ◌*◌, ◌&&◌, ◌==◌, nat_le, int_le, if◌then◌else◌, Option, None, Some, List, [], ◌∷◌, ℤ, pos, neg_ℤ, ◌-ℤ◌}
use Rattle.std.specs.Char.{is_ascii_digit}
use Rattle.std.specs.Option.{option_map}
use Rattle.rpki_common.specs.Chaining.{◌>>=◌}
use Rattle.rpki_base.specs.Civil.{moment}
use Rattle.rpki_base.specs.Digits.{two_digits, four_digits, past, ended}

-- the text behind its leading digits
unfoldable pub past_digits : List ℕ → List ℕ
past_digits [] = []
past_digits (c ∷ more) = if is_ascii_digit c then past_digits more else c ∷ more

-- behind one digit or more
abbrev pub past_some_digits : List ℕ → Option (List ℕ)
past_some_digits [] = None
past_some_digits (c ∷ more) = if is_ascii_digit c then Some (past_digits more) else None

-- behind a fraction, `.` (46) and one digit or more, if there is one
abbrev pub past_fraction : List ℕ → Option (List ℕ)
past_fraction [] = Some []
past_fraction (c ∷ more) = if c == 46 then past_some_digits more else Some (c ∷ more)

-- HH:MM, to 23:59, with nothing behind it, in seconds; 58 is `:`
unfoldable pub offset_seconds : List ℕ → Option ℕ
offset_seconds text = do
  hour ← two_digits text
  colon ← past 58 hour.1
  minute ← two_digits colon
  nothing ← ended minute.1
  if nat_le hour.0 23 && nat_le minute.0 59 then Some (hour.0 * 3600 + minute.0 * 60) else None

-- the number with a minus sign
abbrev pub minus : ℕ → ℤ
minus n = neg_ℤ (pos n)

-- how many seconds the local time is ahead of UTC: `Z` (90), or `+` (43) or `-` (45) and HH:MM
abbrev pub offset : List ℕ → Option ℤ
offset [] = None
offset (c ∷ more) =
    if c == 90 then option_map (λ nothing. pos 0) (ended more)
    else if c == 43 then option_map pos (offset_seconds more)
    else if c == 45 then option_map minus (offset_seconds more) else None

-- a moment in the years 0 to 9999
abbrev pub in_range : ℤ → Option ℤ
in_range s = if int_le (neg_ℤ (pos 62167219200)) s && int_le s (pos 253402300799) then Some s
    else None

-- YYYY-MM-DDTHH:MM:SS, a fraction or none, and the offset
unfoldable pub rfc3339_time : List ℕ → Option ℤ
rfc3339_time text = do
  year ← four_digits text
  behind_year ← past 45 year.1
  month ← two_digits behind_year
  behind_month ← past 45 month.1
  day ← two_digits behind_month
  behind_day ← past 84 day.1
  hour ← two_digits behind_day
  behind_hour ← past 58 hour.1
  minute ← two_digits behind_hour
  behind_minute ← past 58 minute.1
  second ← two_digits behind_minute
  zone ← past_fraction second.1
  ahead ← offset zone
  local ← moment (record {
    year = year.0;
    month = month.0;
    day = day.0;
    hour = hour.0;
    minute = minute.0;
    second = second.0;
  })
  in_range (local -ℤ ahead)
