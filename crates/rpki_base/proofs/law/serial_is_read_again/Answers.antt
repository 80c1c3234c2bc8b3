use Rattle.rpki_base.proofs.Serials.{serial_again, serial_begins}
use Rattle.rpki_base.proofs.law.serial_is_read_again.Goals as goal

pub returns-clause-value : goal.returns-clause-value
returns-clause-value c = serial_again

pub returns-clause-begins : goal.returns-clause-begins
returns-clause-begins c = serial_begins
