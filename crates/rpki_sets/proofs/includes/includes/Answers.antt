use Rattle.std.proofs.lemmas.Bool.{false≢true}
use Rattle.std.proofs.lemmas.List.{nil_from_length}
use Rattle.rpki_sets.proofs.Walking.{IsLeft-others, is_missing, is_exhausted}
use Rattle.rpki_sets.proofs.includes.includes.Goals as goal

pub walk-init : goal.walk-init
walk-init c = record { held_maximal = c.requires.all_maximal; asked_maximal = c.requires.part_maximal; same = (λ h. h, λ h. h) }

pub walk-preserved-then-first-run : goal.walk-preserved-then-first-run
walk-preserved-then-first-run c =
    IsLeft-others _ _ _ _ _ _ _ _ (record { held_is = c.in-Some-split_first.ensures.cases.0; asked_is = c.in-Some.ensures.cases.0 }) c.walk.invariant c.if-first-run.true

pub returns-else-is_inside : goal.returns-else-is_inside
returns-else-is_inside c =
    is_missing _ _ _ _ _ _ _ _ (record { held_is = c.in-Some-split_first.ensures.cases.0; asked_is = c.in-Some.ensures.cases.0 }) c.walk.invariant c.if-first-run.false (λ h. false≢true (c.if-is_inside.ensures.1 h))

pub returns-in_default-split_first : goal.returns-in_default-split_first
returns-in_default-split_first c = is_exhausted _ _ _ _ _ _ (nil_from_length _ c.in_default-split_first.ensures.cases) c.in-Some.ensures.cases.0 c.walk.invariant
