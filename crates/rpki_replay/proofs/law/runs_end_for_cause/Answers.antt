use Rattle.rpki_replay.proofs.Ended.{ends_so}
use Rattle.rpki_replay.proofs.law.runs_end_for_cause.Goals as goal

pub returns : goal.returns
returns g c = ends_so g.P.Scheme.checks
