-- Lists of items of which each says what it is: how often one kind may be there, and which one
-- counts.
-- The list is that of the items of one kind, as `filter` gives it.
use Rattle.std.specs.Prelude.{Bool, if◌then◌else◌, Option, None, Some, List, [], ◌∷◌}
use Rattle.rpki_common.specs.Chaining.{◌>>=◌}

-- exactly one is there, and is read
unfoldable pub the_one : {A X : Type 0} → (A → Option X) → List A → Option X
the_one read [] = None
the_one read (a ∷ []) = read a
the_one read (a ∷ b ∷ more) = None

-- none is there, or exactly one, which is read
unfoldable pub at_most_one : {A X : Type 0} → (A → Option X) → List A → Option (Option X)
at_most_one read [] = Some None
at_most_one read (a ∷ []) = read a >>= λ x. Some (Some x)
at_most_one read (a ∷ b ∷ more) = None

-- each is read, and the last one counts; none is the answer where no item is there
unfoldable pub the_last : {A X : Type 0} → X → (A → Option X) → List A → Option X
the_last none read [] = Some none
the_last none read (a ∷ more) = read a >>= λ x. the_last x read more

-- no item but those that pass the test
unfoldable pub only : {A : Type 0} → (A → Bool) → List A → Option (Unit {0})
only test [] = Some tt
only test (a ∷ more) = if test a then only test more else None
