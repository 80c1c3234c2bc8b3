-- What writing adds to the octets written, where these are told.
use Rattle.std.specs.Prelude.{◌<◌, ℕ, List, length}
use Rattle.std.specs.declared.option.Option.{Option}
use Rattle.std.specs.Io.{StartsWith}
use Rattle.std.specs.Io.KnownBytes.{Appends}

-- The octets written grew by some front of `octets`, and not by all of them.
abbrev pub AppendsPart : Option (List ℕ) → Option (List ℕ) → List ℕ → Type 0
AppendsPart before after octets =
    (front : List ℕ) × StartsWith octets front × (length front < length octets)
    × Appends before after front
