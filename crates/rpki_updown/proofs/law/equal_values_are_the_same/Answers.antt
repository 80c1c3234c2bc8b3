use Rattle.rpki_updown.proofs.Limits.{limits_same}
use Rattle.rpki_updown.proofs.law.equal_values_are_the_same.Goals as goal

pub returns-clause-limit : goal.returns-clause-limit
returns-clause-limit c = limits_same
