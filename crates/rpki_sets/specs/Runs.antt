-- Runs of numbers, and the sets that lists of runs stand for.
use Rattle.std.specs.Prelude.{◌↔◌, ◌⊎◌, ℕ, ◌+◌, ◌≤◌, ◌<◌, ◌^◌, nat_lt, min, max, if◌then◌else◌, List, [], ◌∷◌}
use Rattle.rpki_sets.specs.declared.run.Run.{Run}

-- the number lies in the run
abbrev pub HoldsNumber : Run → ℕ → Type 0
HoldsNumber run n = (run.first ≤ n) × (n ≤ run.last)

-- the number lies in one of the runs
abbrev pub Has : List Run → ℕ → Type 0
Has [] n = ⊥
Has (run ∷ more) n = HoldsNumber run n ⊎ Has more n

-- both lists stand for the same numbers
abbrev pub SameNumbers : List Run → List Run → Type 0
SameNumbers a b = (n : ℕ) → Has a n ↔ Has b n

-- the first list has every number of the second
abbrev pub Includes : List Run → List Run → Type 0
Includes a b = (n : ℕ) → Has b n → Has a n

-- each run ends no earlier than it begins
abbrev pub AllOrdered : List Run → Type 0
AllOrdered [] = Unit {0}
AllOrdered (run ∷ more) = (run.first ≤ run.last) × AllOrdered more

-- a number that no run has lies between the number and the next run
abbrev pub IsApart : ℕ → List Run → Type 0
IsApart last [] = Unit {0}
IsApart last (next ∷ more) = last + 1 < next.first

-- the runs ascend, and no two of them overlap or touch: each is as long as it can be
abbrev pub IsMaximal : List Run → Type 0
IsMaximal [] = Unit {0}
IsMaximal (run ∷ more) = (run.first ≤ run.last) × IsApart run.last more × IsMaximal more

-- every number has at most so many bits
abbrev pub IsWithin : ℕ → List Run → Type 0
IsWithin width runs = (n : ℕ) → Has runs n → n < 2 ^ width

-- what lists stand for sets of numbers of so many bits: one list for each set
pub record IsSet (width : ℕ) (runs : List Run) : Type 0 where
  pub maximal : IsMaximal runs
  pub within : IsWithin width runs

-- from the first number of either run to the last number of either
abbrev pub hull : Run → Run → Run
hull a b = record { first = min a.first b.first; last = max a.last b.last }

-- A run added to maximal runs: it takes in each run that it overlaps or touches.
unfoldable pub add : Run → List Run → List Run
add run [] = run ∷ []
add run (next ∷ more) =
    if nat_lt (run.last + 1) next.first then run ∷ next ∷ more
    else (if nat_lt (next.last + 1) run.first then next ∷ add run more
    else add (hull run next) more)

-- the maximal runs of the numbers in these runs
unfoldable pub union : List Run → List Run
union [] = []
union (run ∷ more) = add run (union more)
