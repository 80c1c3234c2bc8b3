use Rattle.rpki_sigmsg.proofs.AllChecks.{all_passed, named}
use Rattle.rpki_sigmsg.proofs.validation.first_false_is_named.Goals as goal

pub returns-clause-passes : goal.returns-clause-passes
returns-clause-passes g c = all_passed _

pub returns-clause-fails : goal.returns-clause-fails
returns-clause-fails g c = named _
