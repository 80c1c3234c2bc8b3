use Rattle.std.proofs.Common.{◌∙◌}
use Rattle.std.specs.Cmp.Lexicographic.{pointwise}
use Rattle.rpki_sets.specs.Comparing.{is_same}
use Rattle.rpki_sets.proofs.EqualRuns.{same_lists, same_sets}
use Rattle.rpki_sets.proofs.blocks.BlocksPartialEq.eq.Goals as goal

pub returns-clause-same : goal.returns-clause-same
returns-clause-same g c =
    same_lists _ _ _ (c.eq.ensures ∙ (λ i. pointwise is_same (c.runs.ensures.runs i) (c.runs-2.ensures.runs i)))

pub returns-clause-numbers : goal.returns-clause-numbers
returns-clause-numbers g c =
    same_sets _ _ _ (c.eq.ensures ∙ (λ i. pointwise is_same (c.runs.ensures.runs i) (c.runs-2.ensures.runs i)))
    c.runs.ensures.set.maximal c.runs-2.ensures.set.maximal
