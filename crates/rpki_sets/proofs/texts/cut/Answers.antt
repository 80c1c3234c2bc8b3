use Rattle.rpki_sets.proofs.Cutting.{cut_nowhere, cut_at_sliced}
use Rattle.rpki_sets.proofs.texts.cut.Goals as goal

pub returns-in-Some-clause-some : goal.returns-in-Some-clause-some
returns-in-Some-clause-some c = cut_at_sliced _ _ _ c.in-Some.ensures.place c.in-Some.ensures.within

pub returns-in-None-clause-none : goal.returns-in-None-clause-none
returns-in-None-clause-none c = cut_nowhere _ _ c.in-None.ensures.place
