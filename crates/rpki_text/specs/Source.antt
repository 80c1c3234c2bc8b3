-- What reading takes of the octets still to come, where these are told.
use Rattle.std.specs.Prelude.{◌≡◌, ◌≤◌, ℕ, Option, None, Some, List, length}
use Rattle.std.specs.Io.KnownBytes.{Consumes}

-- The next `count` octets were taken.
abbrev pub TakesExactly : Option (List ℕ) → Option (List ℕ) → ℕ → Type 0
TakesExactly before after count =
    (octets : List ℕ) × Consumes before after octets × (length octets ≡ count)

-- Some of the next octets were taken, and not more than `most`.
abbrev pub TakesAtMost : Option (List ℕ) → Option (List ℕ) → ℕ → Type 0
TakesAtMost before after most =
    (octets : List ℕ) × Consumes before after octets × (length octets ≤ most)

-- The fact holds of the input: of the octets that the source tells; where it tells none, of some
-- octets.
abbrev pub OfInput : Option (List ℕ) → (List ℕ → Type 0) → Type 0
OfInput (Some input) fact = fact input
OfInput None fact = (input : List ℕ) × fact input
