use Rattle.rpki_upserver.proofs.Ended.{ends_so}
use Rattle.rpki_upserver.proofs.law.runs_end_for_cause.Goals as goal

pub returns : goal.returns
returns g c = λ run. ends_so g.P.Scheme.checks run
