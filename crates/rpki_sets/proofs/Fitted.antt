-- Each run of a set of a kind is one of the kind.
use Rattle.std.proofs.Common.{◌≡◌, ℕ, zero, suc, ◌<◌, inl, inr, List, [], ◌∷◌, length, get_or, subst, arith}
use Rattle.rpki_sets.specs.declared.run.Run.{Run}
use Rattle.rpki_sets.specs.Runs.{IsSet}
use Rattle.rpki_sets.proofs.Fitting.{IsFit}

pub tail_set : (width : ℕ) (run : Run) (more : List Run) → IsSet width (run ∷ more) → IsSet width more
tail_set width run more set = record { maximal = set.maximal.2; within = λ n h. set.within n (inr h) }

pub head_fits : (width : ℕ) (run : Run) (more : List Run) → IsSet width (run ∷ more) → IsFit width run
head_fits width run more set = record { ordered = set.maximal.0; within = set.within run.last (inl (set.maximal.0, omega arith)) }

pub each_fits : (width : ℕ) (runs : List Run) → IsSet width runs → (k : ℕ) (d : Run) → k < length runs → IsFit width (get_or runs k d)
each_fits width [] set k d within = absurd (omega arith)
each_fits width (run ∷ more) set zero d within = head_fits width run more set
each_fits width (run ∷ more) set (suc k) d within = each_fits width more (tail_set width run more set) k d (omega arith)

module _ (width : ℕ) (runs : List Run) (first : Run) (more : List Run) (set : IsSet width runs) (is : runs ≡ first ∷ more) where
  pub first_fits : IsFit width first
  first_fits = head_fits width first more (subst (IsSet width) is set)

  pub later_fits : (k : ℕ) (d : Run) → k < length more → IsFit width (get_or more k d)
  later_fits k d within = each_fits width more (tail_set width first more (subst (IsSet width) is set)) k d within
