use Rattle.std.proofs.lemmas.List.{nil_from_length}
use Rattle.rpki_sets.proofs.Spaces.{pass_back, stop_back, end_back}
use Rattle.rpki_sets.proofs.texts.drop_spaces.Goals as goal

pub back-preserved : goal.back-preserved
back-preserved c = pass_back c.args.text.now c.back.rest.now _ _ c.in-Some.ensures.cases.0 c.if-octet-ne32.false c.back.invariant

pub returns-then-octet-ne32 : goal.returns-then-octet-ne32
returns-then-octet-ne32 c = stop_back c.args.text.now c.back.rest.now _ _ c.in-Some.ensures.cases.0 c.if-octet-ne32.true c.back.invariant

pub returns : goal.returns
returns c = end_back c.args.text.now c.back.rest.now (nil_from_length _ c.in_default.ensures.cases) c.back.invariant
