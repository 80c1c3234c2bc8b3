use Rattle.rpki_der.proofs.Strict.{loose_value, loose_begins}
use Rattle.rpki_der.proofs.Whole.{loose_at}
use Rattle.rpki_der.proofs.law.strict_is_loose.Goals as goal

pub returns-clause-value : goal.returns-clause-value
returns-clause-value c = loose_value

pub returns-clause-begins : goal.returns-clause-begins
returns-clause-begins c = loose_begins

pub returns-clause-at : goal.returns-clause-at
returns-clause-at c = loose_at
