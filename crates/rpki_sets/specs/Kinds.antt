-- What the three kinds of numbers have in common: how items are read, and how runs are written.
use Rattle.std.specs.Prelude.{◌≡◌, ◌≢◌, ℕ, ◌+◌, ◌<◌, ◌≤◌, ◌^◌, nat_le, Bool, ◌&&◌, ◌||◌, ◌==◌, if◌then◌else◌, Option, None, Some, List, [], ◌∷◌, ◌++◌, codes, flat_map}
use Rattle.std.specs.List.{All}
use Rattle.std.specs.Fmt.{decimal}
use Rattle.rpki_common.specs.Chaining.{◌>>=◌}
use Rattle.rpki_sets.specs.declared.run.Run.{Run}
use Rattle.rpki_sets.specs.Runs.{union}
use Rattle.rpki_sets.specs.Texts.{dash, slash, comma, space, cut, trimmed, parts, read_all, decimal_below}
use Rattle.rpki_sets.specs.Prefixes.{prefix, prefix_length}

-- a kind of numbers: how many bits they have, whether their items may be prefixes, how one is read
-- and written
pub record Kind : Type 0 where
  pub width : ℕ
  pub has_prefixes : Bool
  pub number : List ℕ → Option ℕ
  pub number_text : ℕ → List ℕ

-- ---- reading

-- a run between two ends, the first not above the second
abbrev pub run_from : ℕ → ℕ → Option Run
run_from first last = if nat_le first last then Some (record { first = first; last = last })
    else None

-- one number, or two with `-` between
abbrev pub range_of : Kind → List ℕ → Option (List ℕ × List ℕ) → Option Run
range_of kind text None = kind.number text >>= λ n. run_from n n
range_of kind text (Some ends) =
    kind.number ends.0 >>= λ first. kind.number ends.1 >>= λ last. run_from first last

-- the run that a text spells, which is cut at the first `-` where there is one
unfoldable pub range : Kind → List ℕ → Option Run
range kind text = range_of kind text (cut dash text)

-- an address and a length; what the address has past the length is of no account
abbrev pub prefix_of : Kind → List ℕ × List ℕ → Option Run
prefix_of kind parts =
    kind.number parts.0 >>= λ address. decimal_below (kind.width + 1) parts.1
    >>= λ len. Some (prefix kind.width address len)

-- an address and a length with `/` between, or a range
abbrev pub prefix_or_range : Kind → List ℕ → Option (List ℕ × List ℕ) → Option Run
prefix_or_range kind text None = range kind text
prefix_or_range kind text (Some parts) = prefix_of kind parts

-- one item of a text
unfoldable pub item : Kind → List ℕ → Option Run
item kind text = if kind.has_prefixes then prefix_or_range kind text (cut slash text)
    else range kind text

-- one item, which may have spaces round it
abbrev pub spaced_item : Kind → List ℕ → Option Run
spaced_item kind text = item kind (trimmed text)

-- the runs that the items of a text stand for
unfoldable pub runs_of : Kind → List ℕ → Option (List Run)
runs_of kind text = read_all (spaced_item kind) (parts text)

-- the set that a text stands for, as its maximal runs
unfoldable pub blocks_of : Kind → List ℕ → Option (List Run)
blocks_of kind text = runs_of kind text >>= λ runs. Some (union runs)

-- ---- writing

-- two numbers with `-` between
abbrev pub range_text : Kind → Run → List ℕ
range_text kind run = kind.number_text run.first ++ (codes "-" ++ kind.number_text run.last)

-- an address, `/` and the length where there is one, or else two addresses
abbrev pub prefix_or_range_text : Kind → Run → Option ℕ → List ℕ
prefix_or_range_text kind run None = range_text kind run
prefix_or_range_text kind run (Some len) = kind.number_text run.first ++ (codes "/" ++ decimal len)

-- one run: a prefix where the kind has them and the run is one, a number, or two
unfoldable pub run_text : Kind → Run → List ℕ
run_text kind run =
    if kind.has_prefixes then prefix_or_range_text kind run (prefix_length kind.width run)
    else (if run.first == run.last then kind.number_text run.first else range_text kind run)

-- the runs with commas between them
unfoldable pub printed : Kind → List Run → List ℕ
printed kind [] = []
printed kind (run ∷ more) = run_text kind run ++ flat_map (λ next. codes "," ++ run_text kind next)
    more

-- an octet of a printed set: `,`, `-`, `.`, `/`, a digit or `:`, which follow each other, or `a` to
-- `f`
abbrev pub is_set_octet : ℕ → Bool
is_set_octet octet = nat_le 44 octet && nat_le octet 58 || nat_le 97 octet && nat_le octet 102

-- ---- what is asked of a kind

-- none of the octets that stand between numbers or items
abbrev pub IsPlain : ℕ → Type 0
IsPlain octet = (octet ≢ comma) × (octet ≢ space) × (octet ≢ dash) × (octet ≢ slash)

-- numbers that are read have no more bits than the kind, what is written is read as the same
-- number, the empty text is no number, and no text of a number has an octet that stands between
-- numbers
pub record IsLawfulKind (kind : Kind) : Type 0 where
  pub bounded : kind.width ≤ 128
  pub within : (text : List ℕ) (n : ℕ) → kind.number text ≡ Some n → n < 2 ^ kind.width
  pub again : (n : ℕ) → n < 2 ^ kind.width → kind.number (kind.number_text n) ≡ Some n
  pub empty : kind.number [] ≡ None
  pub plain : (n : ℕ) → n < 2 ^ kind.width → All IsPlain (kind.number_text n)
