-- Items that are read one after the other and kept. A means for loops.
use Rattle.std.specs.Prelude.{Bool, if◌then◌else◌, Option, Some, List, [], ◌∷◌, ◌++◌}
use Rattle.rpki_common.specs.Chaining.{◌>>=◌}

-- an item that passes the test is read, and stands behind those that were read before
unfoldable pub each_slot : {A X : Type 0} → (A → Bool) → (A → Option X) → List X → A
    → Option (List X)
each_slot test read found a =
    if test a then (read a >>= λ x. Some (found ++ x ∷ [])) else Some found
