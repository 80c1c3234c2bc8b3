use Rattle.std.proofs.Common.{refl}
use Rattle.rpki_external.proofs.word_parts.validity_at.Goals as goal

pub returns-in_default-clause-none : goal.returns-in_default-clause-none
returns-in_default-clause-none c = λ _ validity is. c.in_default.ensures.none refl validity.not_before is.not_before

pub returns-in-None-clause-none : goal.returns-in-None-clause-none
returns-in-None-clause-none c = λ _ validity is. c.in-None.ensures.none refl validity.not_after is.not_after
