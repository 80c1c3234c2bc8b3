-- Items that pass by one at a time: a means for loops, tied to the words of Items by
-- proofs/Collected.antt.
use Rattle.std.specs.Prelude.{Bool, if◌then◌else◌, Option, None, Some, List, [], ◌∷◌}
use Rattle.rpki_common.specs.Chaining.{◌>>=◌}

-- each item in turn changes what was found so far
unfoldable pub collect : {A S : Type 0} → (S → A → Option S) → S → List A → Option S
collect step s [] = Some s
collect step s (a ∷ more) = step s a >>= λ t. collect step t more

-- what is read now, unless one was found before
unfoldable pub once : {X : Type 0} → Option X → Option X → Option (Option X)
once None now = now >>= λ x. Some (Some x)
once (Some y) now = None

-- an item that passes the test is the only one
unfoldable pub slot : {A X : Type 0} → (A → Bool) → (A → Option X) → Option X → A
    → Option (Option X)
slot test read found a = if test a then once found (read a) else Some found

-- an item that passes the test takes the place of the one before
unfoldable pub last_slot : {A X : Type 0} → (A → Bool) → (A → Option X) → X → A → Option X
last_slot test read found a = if test a then read a else Some found

-- an item that fails the test is refused
unfoldable pub allowed : {A : Type 0} → (A → Bool) → Unit {0} → A → Option (Unit {0})
allowed test found a = if test a then Some tt else None

-- two things are found at once
unfoldable pub both : {A S T : Type 0} → (S → A → Option S) → (T → A → Option T) → S × T → A
    → Option (S × T)
both f g s a = f s.0 a >>= λ x. g s.1 a >>= λ y. Some (x, y)
