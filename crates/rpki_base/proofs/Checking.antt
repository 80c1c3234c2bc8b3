-- What a list of checks means, and one list behind another.
use Rattle.std.proofs.Common.{◌≡◌, ℕ, ◌+◌, Bool, true, false, Result, Ok, Err, List, [], ◌∷◌, ◌++◌, length, refl, sym, ap, ◌∙◌, arith}
use Rattle.std.specs.Prelude.{All, IsErrAnd}
use Rattle.std.specs.List.{AllByRecursion}
use Rattle.std.proofs.lemmas.List.Elements.{All-from_recursion, recursion_from_All}
use Rattle.rpki_base.specs.Checks.{first_failure, FirstFalse}

abbrev IsSo : Bool → Type 0
IsSo b = b ≡ true

abbrev AreSo : List Bool → Type 0
AreSo list = AllByRecursion IsSo list

all_pass : (n : ℕ) (list : List Bool) → AreSo list → first_failure n list ≡ Ok tt
all_pass n [] h = refl
all_pass n (true ∷ more) h = all_pass (n + 1) more h.1
all_pass n (false ∷ more) h = let e : false ≡ true = h.0 in cc

pub passes : (n : ℕ) (list : List Bool) → All (λ b. b ≡ true) list → first_failure n list ≡ Ok tt
passes n list h = all_pass n list (recursion_from_All IsSo list h)

-- a list of checks that fails at number k, with the values in front by recursion
record Failed (n k : ℕ) (list : List Bool) : Type 0 where
  front : List Bool
  back : List Bool
  cut : list ≡ front ++ false ∷ back
  so : AreSo front
  number : k ≡ n + length front

failed_at : (n k : ℕ) (list : List Bool) → first_failure n list ≡ Err k → Failed n k list
failed_at n k [] e = cc
failed_at n k (true ∷ more) e =
    let f = failed_at (n + 1) k more e in
    let p : k ≡ n + 1 + length f.front = f.number in
    record { front = true ∷ f.front; back = f.back; cut = ap (λ (l : List Bool). true ∷ l) f.cut; so = (refl, f.so); number = omega arith }
failed_at n k (false ∷ more) e = let i : n ≡ k = cc in record { front = []; back = more; cut = refl; so = tt; number = omega arith }

pub fails : (n k : ℕ) (list : List Bool) → first_failure n list ≡ Err k → FirstFalse n k list
fails n k list e =
    let f = failed_at n k list e in
    record { before = f.front; after = f.back; parts = f.cut; holds = All-from_recursion IsSo f.front f.so; place = f.number }

at_place : (n : ℕ) (front back : List Bool) → AreSo front → first_failure n (front ++ false ∷ back) ≡ Err (n + length front)
at_place n [] back h = let z : n ≡ n + 0 = omega arith in ap Err z
at_place n (true ∷ more) back h = let z : n + 1 + length more ≡ n + length (true ∷ more) = omega arith in at_place (n + 1) more back h.1 ∙ ap Err z
at_place n (false ∷ more) back h = let e : false ≡ true = h.0 in cc

pub first : (n k : ℕ) (list : List Bool) → FirstFalse n k list → first_failure n list ≡ Err k
first n k list f = ap (first_failure n) f.parts ∙ at_place n f.before f.after (recursion_from_All IsSo f.before f.holds) ∙ ap Err (sym f.place)

-- ---- one list of checks behind another

pub passed : (n : ℕ) (xs ys : List Bool) (u : Unit {0}) → Ok u ≡ first_failure n xs → first_failure n (xs ++ ys) ≡ first_failure (n + length xs) ys
passed n [] ys u e = let z : n ≡ n + 0 = omega arith in ap (λ k. first_failure k ys) z
passed n (true ∷ xs) ys u e = let z : n + 1 + length xs ≡ n + length (true ∷ xs) = omega arith in passed (n + 1) xs ys u e ∙ ap (λ k. first_failure k ys) z
passed n (false ∷ xs) ys u e = cc

pub failed : (n : ℕ) (xs ys : List Bool) (k : ℕ) → Err k ≡ first_failure n xs → first_failure n (xs ++ ys) ≡ Err k
failed n [] ys k e = cc
failed n (true ∷ xs) ys k e = failed (n + 1) xs ys k e
failed n (false ∷ xs) ys k e = sym e

-- what a `?` hands on is the error that it met
pub err_is : (error : ℕ) (r : Result (Unit {0}) ℕ) → IsErrAnd r (λ e. e ≡ error) → r ≡ Err error
err_is error (Ok u) h = absurd h
err_is error (Err e) h = ap Err h
