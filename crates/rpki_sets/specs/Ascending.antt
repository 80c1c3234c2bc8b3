-- Runs in the order in which they are joined: a means for the loop that makes a union.
use Rattle.std.specs.Prelude.{ℕ, ◌≤◌, List, [], ◌∷◌}
use Rattle.rpki_sets.specs.declared.run.Run.{Run}

-- no run begins before the number
abbrev pub AllFrom : ℕ → List Run → Type 0
AllFrom first [] = Unit {0}
AllFrom first (run ∷ more) = (first ≤ run.first) × AllFrom first more

-- no run begins before an earlier one
abbrev pub IsAscending : List Run → Type 0
IsAscending [] = Unit {0}
IsAscending (run ∷ more) = AllFrom run.first more × IsAscending more
