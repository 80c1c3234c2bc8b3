use Rattle.std.proofs.lemmas.List.{nil_from_length}
use Rattle.rpki_sets.proofs.Spaces.{pass_front, stop_front, end_front}
use Rattle.rpki_sets.proofs.texts.skip_spaces.Goals as goal

pub front-preserved : goal.front-preserved
front-preserved c = pass_front _ _ _ _ c.in-Some.ensures.cases.0 c.if-octet-ne32.false c.front.invariant

pub returns-then-octet-ne32 : goal.returns-then-octet-ne32
returns-then-octet-ne32 c = stop_front _ _ _ _ c.in-Some.ensures.cases.0 c.if-octet-ne32.true c.front.invariant

pub returns : goal.returns
returns c = end_front _ _ (nil_from_length _ c.in_default.ensures.cases) c.front.invariant
