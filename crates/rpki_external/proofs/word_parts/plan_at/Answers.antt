use Rattle.std.proofs.Common.{refl}
use Rattle.rpki_external.proofs.word_parts.plan_at.Goals as goal

pub returns-in_default-clause-none : goal.returns-in_default-clause-none
returns-in_default-clause-none c = λ _ plan is. c.in_default.ensures.none refl plan.when is.moment
