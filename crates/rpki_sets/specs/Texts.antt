-- Texts cut into parts, and numbers in decimal digits.
use Rattle.std.specs.Prelude.{ℕ, ◌+◌, nat_lt, ◌&&◌, ◌==◌, if◌then◌else◌, Option, None, Some, List, [], ◌∷◌, length, reverse, take, drop, position}
use Rattle.std.specs.List.{slice_split}
use Rattle.std.specs.Str.{all_ascii_digits}
use Rattle.std.specs.Str.Parse.{digits_value}
use Rattle.rpki_common.specs.Chaining.{◌>>=◌}

-- `,`
abbrev pub comma : ℕ
comma = 44

-- a space
abbrev pub space : ℕ
space = 32

-- `-`
abbrev pub dash : ℕ
dash = 45

-- `/`
abbrev pub slash : ℕ
slash = 47

-- the text from its first octet on that is no space
unfoldable pub skip_spaces : List ℕ → List ℕ
skip_spaces [] = []
skip_spaces (octet ∷ more) = if octet == space then skip_spaces more else octet ∷ more

-- the text without the spaces at its start and at its end
unfoldable pub trimmed : List ℕ → List ℕ
trimmed text = reverse (skip_spaces (reverse (skip_spaces text)))

-- what stands before the first mark, and what stands behind it
unfoldable pub cut : ℕ → List ℕ → Option (List ℕ × List ℕ)
cut mark text =
    position (λ octet. octet == mark) text >>= λ place.
    Some (take place text, drop (place + 1) text)

-- what stands between commas
abbrev pub at_commas : List ℕ → List (List ℕ)
at_commas text = slice_split (λ octet. octet == comma) text

-- the parts between commas; a text that is empty or spaces has none
unfoldable pub parts : List ℕ → List (List ℕ)
parts text = if length (trimmed text) == 0 then [] else at_commas text

-- what each is read as, in order; nothing where one of them can't be read
unfoldable pub read_all : {A B : Type 0} → (A → Option B) → List A → Option (List B)
read_all read [] = Some []
read_all read (a ∷ more) = read a >>= λ b. read_all read more >>= λ found. Some (b ∷ found)

-- one decimal digit or more, for a number below the limit; zeros may lead
unfoldable pub decimal_below : ℕ → List ℕ → Option ℕ
decimal_below limit text =
    if nat_lt 0 (length text) && all_ascii_digits text && nat_lt (digits_value 10 text) limit
    then Some (digits_value 10 text)
    else None
