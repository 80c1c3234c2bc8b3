-- Places in octets that are read without a cursor: a means for the functions that take no memory.
use Rattle.std.specs.Prelude.{ℕ, List, [], ◌∷◌}
use Rattle.rpki_der.specs.declared.mode.Mode.{Mode}
use Rattle.rpki_der.specs.Level.{Level}
use Rattle.rpki_der.specs.Position.{Position}

-- before the first value
abbrev pub before : Mode → List ℕ → Position
before mode octets = record { mode = mode; here = octets; levels = [] }

-- in one level
abbrev pub in_level : Mode → Level → List ℕ → Position
in_level mode level octets = record { mode = mode; here = octets; levels = level ∷ [] }
