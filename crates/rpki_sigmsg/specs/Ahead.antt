-- Which octets begin with the identifier of a SEQUENCE: a means for readers of optional ones, tied
-- to `optional` by proofs/Ahead.antt.
use Rattle.std.specs.Prelude.{ℕ, Bool, false, ◌==◌, ◌||◌, List, [], ◌∷◌}

-- in either form
abbrev pub begins_sequence : List ℕ → Bool
begins_sequence [] = false
begins_sequence (a ∷ more) = a == 16 || a == 48
