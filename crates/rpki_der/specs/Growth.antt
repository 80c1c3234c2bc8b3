-- What a reader of a tree has still to read, and to note. A means for that reader alone.
use Rattle.std.specs.Prelude.{◌≡◌, ℕ, zero, suc, ◌-◌, List, [], ◌∷◌, ◌++◌, length, reverse, map}
use Rattle.rpki_der.specs.declared.mode.Mode.{Mode}
use Rattle.rpki_der.specs.declared.tree.Entry.{Entry}
use Rattle.rpki_der.specs.declared.index.Inside.{Inside}
use Rattle.rpki_der.specs.Value.{Value, Values, Begins}
use Rattle.rpki_der.specs.Level.{LevelHolds}
use Rattle.rpki_der.specs.Part.{level_of}
use Rattle.rpki_der.specs.Walk.{left_in}
use Rattle.rpki_der.specs.Entries.{entries_of, all_entries_of}

-- the entry at this place gets this size; all entries behind it are those of the values inside it
abbrev pub entries_closed : List Entry → ℕ → ℕ → List Entry
entries_closed [] k size = []
entries_closed (e ∷ es) zero size = record e { size = size; count = length es } ∷ es
entries_closed (e ∷ es) (suc k) size = e ∷ entries_closed es k size

-- the innermost level first
abbrev pub inner_first : List Inside → List Inside
inner_first levels = reverse levels

-- values stand at each level, and final behind all of them; then the entries are total
abbrev pub CompletesTree : Mode → List ℕ → List Inside → List Entry → List ℕ → List Entry → Type 0
CompletesTree mode here [] entries final total = (here ≡ final) × (entries ≡ total)
CompletesTree mode here (level ∷ levels) entries final total =
    (vs : Values) × (next : List ℕ) × LevelHolds mode (level_of level.extent) here vs next
    × CompletesTree mode next levels (entries_closed (entries ++ all_entries_of vs) level.entry
    (length level.before.now - length next)) final total

-- one value stands first, and then what is read on
abbrev pub OneFirstTree : Mode → List ℕ → List Inside → List Entry → List ℕ → List Entry → Type 0
OneFirstTree mode here levels entries final total =
    (v : Value) × (next : List ℕ) × Begins mode here v next
    × CompletesTree mode next levels (entries ++ entries_of v) final total

-- reading a value here is reading on at here'
pub record Stepped (mode : Mode) (here : List ℕ) (levels : List Inside) (entries : List Entry)
    (here' : List ℕ) (levels' : List Inside) (entries' : List Entry) : Type 0 where
  pub forth : (final : List ℕ) (total : List Entry)
      → OneFirstTree mode here levels entries final total
      → CompletesTree mode here' levels' entries' final total
  pub back : (final : List ℕ) (total : List Entry)
      → CompletesTree mode here' levels' entries' final total
      → OneFirstTree mode here levels entries final total

-- reading a value here is reading on at here', of the levels as the code keeps them, the outermost
-- first
abbrev pub DescendsTree : Mode → List ℕ → List Inside → List Entry → List ℕ → List Inside
    → List Entry → Type 0
DescendsTree mode here levels entries here' levels' entries' =
    Stepped mode here (inner_first levels) entries here' (inner_first levels') entries'

-- what is left in levels that are kept the outermost first: one for each, and the octets known to
-- stand behind it
abbrev pub left_at : List Inside → ℕ
left_at levels = left_in (map (λ l. level_of l.extent) (inner_first levels))
