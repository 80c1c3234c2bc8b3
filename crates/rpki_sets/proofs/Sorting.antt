-- Runs in another order: the same numbers, and ascending where the first numbers don't fall.
use Rattle.std.proofs.Common.{◌≡◌, ℕ, zero, suc, ◌<◌, ◌≤◌, inl, inr, List, [], ◌∷◌, length, get_or, refl, arith}
use Rattle.std.specs.List.{All, Contains}
use Rattle.std.specs.List.Sorted.{IsPermutation, IsNonDecreasingBy}
use Rattle.std.proofs.lemmas.List.Elements.{All-from_recursion, All-head, All-tail}
use Rattle.std.proofs.lemmas.List.Sorted.{All-permutation, Contains-permutation, IsPermutation-sym}
use Rattle.rpki_sets.specs.declared.run.Run.{Run}
use Rattle.rpki_sets.specs.Runs.{HoldsNumber, Has, SameNumbers, AllOrdered, union}
use Rattle.rpki_sets.specs.Ascending.{AllFrom, IsAscending}
use Rattle.rpki_sets.proofs.RunLemmas.{is_union, IsMaximal-union, Has-union}

-- the run that has the number
has_run : (runs : List Run) (n : ℕ) → Has runs n → (run : Run) × Contains runs run × HoldsNumber run n
has_run [] n h = absurd h
has_run (run ∷ more) n (inl held) = (run, (0, omega arith, refl), held)
has_run (run ∷ more) n (inr later) =
    let found = has_run more n later in
    (found.0, (suc found.1.0, omega (arith, found.1.1), found.1.2), found.2)

has_from : (runs : List Run) (n : ℕ) (run : Run) (k : ℕ) → k < length runs → get_or runs k run ≡ run → HoldsNumber run n → Has runs n
has_from [] n run k within is held = absurd (omega arith)
has_from (first ∷ more) n run zero within is held = inl (rw is held)
has_from (first ∷ more) n run (suc k) within is held = inr (has_from more n run k (omega arith) is held)

-- the same runs in another order have the same numbers
pub SameNumbers-permutation : (xs ys : List Run) → IsPermutation xs ys → SameNumbers ys xs
SameNumbers-permutation xs ys moved n = (
  λ h. let found = has_run ys n h in let there = Contains-permutation ys xs found.0 (IsPermutation-sym xs ys moved) found.1 in has_from xs n found.0 there.0 there.1 there.2 found.2,
  λ h. let found = has_run xs n h in let there = Contains-permutation xs ys found.0 moved found.1 in has_from ys n found.0 there.0 there.1 there.2 found.2,
)

abbrev IsOrdered : Run → Type 0
IsOrdered run = run.first ≤ run.last

AllOrdered-all : (runs : List Run) → AllOrdered runs → All IsOrdered runs
AllOrdered-all [] o = λ k d h. absurd (omega arith)
AllOrdered-all (run ∷ more) o = All-from_recursion IsOrdered (run ∷ more) (o.0, by_recursion more o.1)
  where
    by_recursion : (others : List Run) → AllOrdered others → AllOrdered others
    by_recursion others h = h

AllOrdered-from_all : (runs : List Run) → All IsOrdered runs → AllOrdered runs
AllOrdered-from_all [] all = tt
AllOrdered-from_all (run ∷ more) all = (All-head IsOrdered run more all, AllOrdered-from_all more (All-tail IsOrdered run more all))

pub AllOrdered-permutation : (xs ys : List Run) → IsPermutation xs ys → AllOrdered xs → AllOrdered ys
AllOrdered-permutation xs ys moved o = AllOrdered-from_all ys (All-permutation IsOrdered xs ys moved (AllOrdered-all xs o))

AllFrom-rising : (first : ℕ) (runs : List Run) → ((k : ℕ) (d : Run) → k < length runs → first ≤ (get_or runs k d).first) → AllFrom first runs
AllFrom-rising first [] h = tt
AllFrom-rising first (run ∷ more) h = (h 0 run (omega arith), AllFrom-rising first more (λ k d l. h (suc k) d (omega arith)))

pub IsAscending-rising : (runs : List Run) → IsNonDecreasingBy (λ run. run.first) runs → IsAscending runs
IsAscending-rising [] up = tt
IsAscending-rising (run ∷ more) up = (
  AllFrom-rising run.first more (λ k d l. up 0 (suc k) d (omega arith) (omega arith)),
  IsAscending-rising more (λ i j d h l. up (suc i) (suc j) d (omega arith) (omega arith)),
)

-- runs of the same numbers have the same union
pub union-same : (xs ys : List Run) → AllOrdered xs → AllOrdered ys → SameNumbers xs ys → union xs ≡ union ys
union-same xs ys ox oy same =
    is_union (union xs) ys oy (IsMaximal-union xs ox)
    (λ n. (λ h. (same n).0 ((Has-union xs ox n).0 h), λ h. (Has-union xs ox n).1 ((same n).1 h)))
