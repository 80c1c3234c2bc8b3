-- How times are written: as UTCTime or GeneralizedTime (RFC 5280, 4.1.2.5), and in the form of
-- RFC 3339 (5.6).
use Rattle.std.specs.Prelude.{ℕ, ◌+◌, ◌/◌, ◌%◌, ◌<◌, ◌&&◌, nat_le, Bool, if◌then◌else◌, ℤ, List, [], ◌∷◌, ◌++◌, codes}
use Rattle.rpki_der.specs.Tags.{utc_time_tag, generalized_time_tag}
use Rattle.rpki_der.specs.Value.{Value, spelling}
use Rattle.rpki_der.specs.Writing.{primitive_value}
use Rattle.rpki_base.specs.declared.civil.Civil.{Civil}
use Rattle.rpki_base.specs.Civil.{civil_at}

-- a number below 100 in two digits
abbrev pub two : ℕ → List ℕ
two n = (48 + n / 10) ∷ (48 + n % 10) ∷ []

-- a number below 10000 in four digits
abbrev pub four : ℕ → List ℕ
four n = two (n / 100) ++ two (n % 100)

-- the year has four digits, and the others have two
abbrev pub FitsDigits : Civil → Type 0
FitsDigits c = (c.year < 10000) × (c.month < 100) × (c.day < 100) × (c.hour < 100)
    × (c.minute < 100) × (c.second < 100)

-- MMDDHHMMSSZ
abbrev pub month_to_second : Civil → List ℕ
month_to_second c = two c.month ++ (two c.day ++
    (two c.hour ++ (two c.minute ++ (two c.second ++ codes "Z"))))

-- YYMMDDHHMMSSZ
abbrev pub utc_text : Civil → List ℕ
utc_text c = two (c.year % 100) ++ month_to_second c

-- YYYYMMDDHHMMSSZ
abbrev pub generalized_text : Civil → List ℕ
generalized_text c = four c.year ++ month_to_second c

-- the years that UTCTime spells
abbrev pub is_utc_year : ℕ → Bool
is_utc_year year = nat_le 1950 year && nat_le year 2049

-- the time as UTCTime in the years 1950 to 2049, and as GeneralizedTime in all others (RFC 5280,
-- 4.1.2.5)
abbrev pub civil_value : Civil → Value
civil_value c = if is_utc_year c.year then primitive_value utc_time_tag (utc_text c)
    else primitive_value generalized_time_tag (generalized_text c)

-- the time as a value
unfoldable pub time_value : ℤ → Value
time_value seconds = civil_value (civil_at seconds)

-- the octets of the time in DER
unfoldable pub der_time : ℤ → List ℕ
der_time seconds = spelling (time_value seconds)

-- YYYY-MM-DDTHH:MM:SSZ
abbrev pub rfc3339_text : Civil → List ℕ
rfc3339_text c =
    four c.year ++ (codes "-" ++ (two c.month ++
    (codes "-" ++ (two c.day ++ (codes "T" ++ (two c.hour
    ++ (codes ":" ++ (two c.minute ++ (codes ":" ++ (two c.second ++ codes "Z"))))))))))
