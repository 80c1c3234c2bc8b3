-- Where a reader stands inside constructed values.
use Rattle.std.specs.Prelude.{◌≡◌, ℕ, true, List, [], ◌∷◌, ◌++◌, length, ⊤}
use Rattle.rpki_der.specs.declared.mode.Mode.{Mode}
use Rattle.rpki_der.specs.declared.mode.Mode.TheVariants.{Ber}
use Rattle.rpki_der.specs.Identifier.{IsIdentifier, is_constructed}
use Rattle.rpki_der.specs.Lengths.{IsLength}
use Rattle.rpki_der.specs.Value.{Values, spellings, AreValues}

-- A level ends where its octets end, and after stands behind it; or it ends at 00 00.
pub data Level : Type 0 where
  Sized : (after : List ℕ) → Level
  Marked : Level

-- the level ends where its octets end
abbrev pub IsSized : Level → Type 0
IsSized (Sized after) = ⊤
IsSized Marked = ⊥

-- the octets that end the level: none where its length is known, else 00 00
abbrev pub mark_of : Level → List ℕ
mark_of (Sized after) = []
mark_of Marked = 0 ∷ 0 ∷ []

-- how many octets are known to stand behind the level; behind one that 00 00 ends, none are known
abbrev pub behind_level : Level → ℕ
behind_level (Sized after) = length after
behind_level Marked = 0

-- the level's octets from here on are these values, and rest stands behind the level
abbrev pub LevelHolds : Mode → Level → List ℕ → Values → List ℕ → Type 0
LevelHolds mode (Sized after) here vs rest =
    AreValues mode vs × (here ≡ spellings vs) × (after ≡ rest)
LevelHolds mode Marked here vs rest = AreValues mode vs × (here ≡ spellings vs ++ 0 ∷ 0 ∷ rest)

-- the level ends here, and rest stands behind it
abbrev pub EndsLevel : Level → List ℕ → List ℕ → Type 0
EndsLevel (Sized after) here rest = (here ≡ []) × (after ≡ rest)
EndsLevel Marked here rest = here ≡ 0 ∷ 0 ∷ rest

-- a constructed value with this identifier stands at the beginning of the octets, by its header;
-- inner are the octets from its contents on
abbrev pub Opens : Mode → List ℕ → List ℕ → Level → List ℕ → Type 0
Opens mode octets identifier (Sized after) inner =
    IsIdentifier identifier × (is_constructed identifier ≡ true) × (lengths : List ℕ)
    × IsLength mode lengths (length inner) × (octets ≡ identifier
    ++ (lengths ++ (inner ++ after)))
Opens mode octets identifier Marked inner =
    IsIdentifier identifier × (is_constructed identifier ≡ true) × (mode ≡ Ber)
    × (octets ≡ identifier ++ 128 ∷ inner)
