-- Reading again and again until it stops, as a relation.
use Rattle.std.specs.Prelude.{◌≡◌, ℕ, List, [], ◌∷◌, Bool, true, false, Option, Some}

-- From b on, these are read one after the other, each where reading has not stopped, and it stops
-- where rest is left.
abbrev pub RunsTo : {X : Type 0} → (List ℕ → Bool) → (List ℕ → Option (X × List ℕ)) → List ℕ
    → List X → List ℕ → Type 0
RunsTo stops at b [] rest = (b ≡ rest) × (stops b ≡ true)
RunsTo stops at b (x ∷ xs) rest =
    (stops b ≡ false) × ((next : List ℕ) × (at b ≡ Some (x, next)) × RunsTo stops at next xs rest)
