use Rattle.std.proofs.lemmas.List.{nil_from_length}
use Rattle.rpki_external.proofs.Significant.{pass_zero, stop_other, end_zeros}
use Rattle.rpki_external.proofs.inspecting.significant.Goals as goal

pub zeros-preserved : goal.zeros-preserved
zeros-preserved c = pass_zero _ _ _ _ c.in-Some.ensures.cases.0 c.if-octet-ne0.false c.zeros.invariant

pub returns-then-octet-ne0 : goal.returns-then-octet-ne0
returns-then-octet-ne0 c = stop_other _ _ _ _ c.in-Some.ensures.cases.0 c.if-octet-ne0.true c.zeros.invariant

pub returns : goal.returns
returns c = end_zeros _ _ (nil_from_length _ c.in_default.ensures.cases) c.zeros.invariant
