use Rattle.rpki_ca.proofs.Cutting.{cut_at, cut_nowhere}
use Rattle.rpki_ca.proofs.lines.split_at_first.Goals as goal

pub returns-in-Some-clause-some : goal.returns-in-Some-clause-some
returns-in-Some-clause-some c = cut_at _ _ _ c.in-Some.ensures.place

pub returns-in-None-clause-none : goal.returns-in-None-clause-none
returns-in-None-clause-none c = λ n. cut_nowhere _ _ c.in-None.ensures.place
