use Rattle.std.proofs.Common.{refl}
use Rattle.rpki_pubserver.proofs.preparing.terms_of.Goals as goal

pub returns-in_default-clause-none : goal.returns-in_default-clause-none
returns-in_default-clause-none c = λ n when base publisher are. c.in_default.ensures.none refl when are.moment
