-- What the comparison of runs, and of lists of runs, says.
use Rattle.std.proofs.Common.{◌≡◌, ◌↔◌, Bool, true, IsTrue, eqb, List, [], ◌∷◌, refl, sym, ap, subst, ◌∙◌}
use Rattle.std.specs.Cmp.Lexicographic.{pointwise}
use Rattle.std.proofs.lemmas.Bool.{false≢true, and_parts, and_from, eqb-true, eq-eqb}
use Rattle.rpki_sets.specs.declared.run.Run.{Run}
use Rattle.rpki_sets.specs.Comparing.{is_same}
use Rattle.rpki_sets.specs.Runs.{Has, SameNumbers, IsMaximal}
use Rattle.rpki_sets.proofs.RunLemmas.{same_runs}

pub is_same-true : (a b : Run) → is_same a b ≡ true → a ≡ b
is_same-true a b e =
    let parts = and_parts (eqb a.first b.first) (eqb a.last b.last) e in
    let first : a.first ≡ b.first = eqb-true _ _ parts.0 in
    let last : a.last ≡ b.last = eqb-true _ _ parts.1 in
    λ i. record { first = first i; last = last i }

pub is_same-refl : (a b : Run) → a ≡ b → is_same a b ≡ true
is_same-refl a b e = and_from (eqb a.first b.first) (eqb a.last b.last) (eq-eqb _ _ (ap (λ r. r.first) e)) (eq-eqb _ _ (ap (λ r. r.last) e))

pub lists_same : (xs ys : List Run) → pointwise is_same xs ys ≡ true → xs ≡ ys
lists_same [] [] e = refl
lists_same [] (y ∷ ys) e = absurd (false≢true e)
lists_same (x ∷ xs) [] e = absurd (false≢true e)
lists_same (x ∷ xs) (y ∷ ys) e =
    let parts = and_parts (is_same x y) (pointwise is_same xs ys) e in
    let head = is_same-true x y parts.0 in
    let tail = lists_same xs ys parts.1 in
    λ i. head i ∷ tail i

itself_same : (xs : List Run) → pointwise is_same xs xs ≡ true
itself_same [] = refl
itself_same (x ∷ xs) = and_from (is_same x x) (pointwise is_same xs xs) (is_same-refl x x refl) (itself_same xs)

module _ (xs ys : List Run) (answer : Bool) (is : answer ≡ pointwise is_same xs ys) where
  -- the comparison says whether the lists are the same
  pub same_lists : IsTrue answer ↔ (xs ≡ ys)
  same_lists = (λ h. lists_same xs ys (sym is ∙ h), λ e. is ∙ sym (ap (pointwise is_same xs) e) ∙ itself_same xs)

  -- the comparison says whether two lists have the same numbers
  pub same_sets : IsMaximal xs → IsMaximal ys → IsTrue answer ↔ SameNumbers xs ys
  same_sets mx my = (
    λ h n. let e = lists_same xs ys (sym is ∙ h) in subst (λ zs. (Has xs n → Has zs n) × (Has zs n → Has xs n)) e (λ g. g, λ g. g),
    λ same. same_lists.1 (same_runs xs ys mx my same),
  )
