use Rattle.rpki_base.proofs.Times.{time_again, time_begins}
use Rattle.rpki_base.proofs.law.time_is_read_again.Goals as goal

pub returns-clause-value : goal.returns-clause-value
returns-clause-value c = time_again

pub returns-clause-begins : goal.returns-clause-begins
returns-clause-begins c = time_begins
