use Rattle.rpki_base.proofs.Checking.{passes, fails, first}
use Rattle.rpki_base.proofs.validation.first_false_decides.Goals as goal

pub returns-clause-passes : goal.returns-clause-passes
returns-clause-passes c = passes

pub returns-clause-fails : goal.returns-clause-fails
returns-clause-fails c = fails

pub returns-clause-first : goal.returns-clause-first
returns-clause-first c = first
