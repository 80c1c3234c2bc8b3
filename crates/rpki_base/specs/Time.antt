-- Times (RFC 5280, 4.1.2.5): seconds since 1970, spelled as UTCTime or as GeneralizedTime.
use Rattle.std.specs.Prelude.{ℕ, ◌+◌, nat_lt, bytes_eq, if◌then◌else◌, Option, None, List, ℤ}
use Rattle.std.specs.Option.{option_or}
use Rattle.rpki_common.specs.Chaining.{◌>>=◌}
use Rattle.rpki_der.specs.Tags.{utc_time_tag, generalized_time_tag}
use Rattle.rpki_der.specs.Leaf.{LeafFields}
use Rattle.rpki_der.specs.Value.{Value}
use Rattle.rpki_der.specs.Grammar.{primitive, so}
use Rattle.rpki_base.specs.Digits.{two_digits, four_digits, past, ended}
use Rattle.rpki_base.specs.Civil.{moment}

-- MMDDHHMMSSZ in a year; 90 is Z
unfoldable pub in_year : ℕ → List ℕ → Option ℤ
in_year year text = do
  month ← two_digits text
  day ← two_digits month.1
  hour ← two_digits day.1
  minute ← two_digits hour.1
  second ← two_digits minute.1
  behind ← past 90 second.1
  nothing ← ended behind
  moment (record {
    year = year;
    month = month.0;
    day = day.0;
    hour = hour.0;
    minute = minute.0;
    second = second.0;
  })

-- two digits of a year: 50 to 99 are 1950 to 1999, and 00 to 49 are 2000 to 2049
abbrev pub full_year : ℕ → ℕ
full_year n = if nat_lt n 50 then 2000 + n else 1900 + n

-- YYMMDDHHMMSSZ (4.1.2.5.1)
unfoldable pub utc_time : List ℕ → Option ℤ
utc_time text = do
  year ← two_digits text
  in_year (full_year year.0) year.1

-- YYYYMMDDHHMMSSZ (4.1.2.5.2)
unfoldable pub generalized_time : List ℕ → Option ℤ
generalized_time text = do
  year ← four_digits text
  in_year year.0 year.1

-- Time ::= CHOICE { utcTime UTCTime, generalTime GeneralizedTime }
unfoldable pub time : Value → Option ℤ
time v = option_or (so (primitive utc_time_tag) utc_time v)
    (so (primitive generalized_time_tag) generalized_time v)

-- the time that a primitive value is, by its tag and its contents
abbrev pub leaf_time : LeafFields → Option ℤ
leaf_time leaf =
    if bytes_eq leaf.tag utc_time_tag then utc_time leaf.content
    else if bytes_eq leaf.tag generalized_time_tag then generalized_time leaf.content else None
