-- AS numbers as text.
use Rattle.std.specs.Prelude.{ℕ, ◌^◌, false, if◌then◌else◌, Option, List, take, drop, map, codes}
use Rattle.std.specs.Char.{to_ascii_lowercase}
use Rattle.std.specs.Str.{bytes_eq}
use Rattle.std.specs.Fmt.{decimal}
use Rattle.rpki_sets.specs.declared.run.Run.{Run}
use Rattle.rpki_sets.specs.Texts.{decimal_below}
use Rattle.rpki_sets.specs.Kinds.{Kind, blocks_of, printed}

-- what stands behind `AS` in any case, or the whole text where it doesn't begin so
abbrev pub without_as : List ℕ → List ℕ
without_as text = if bytes_eq (map to_ascii_lowercase (take 2 text)) (codes "as") then drop 2 text
    else text

-- decimal digits below 2 ^ 32, optionally after `AS` in any case
unfoldable pub as_number : List ℕ → Option ℕ
as_number text = decimal_below (2 ^ 32) (without_as text)

-- AS numbers, written in decimal digits
abbrev pub as_kind : Kind
as_kind = record { width = 32; has_prefixes = false; number = as_number; number_text = decimal }

-- the AS numbers that a text stands for, as maximal runs
abbrev pub as_blocks : List ℕ → Option (List Run)
as_blocks = blocks_of as_kind

-- the text of AS numbers
abbrev pub as_text : List Run → List ℕ
as_text = printed as_kind
