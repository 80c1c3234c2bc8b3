use Rattle.rpki_replay.proofs.Ended.{answers_all}
use Rattle.rpki_replay.proofs.law.zero_answers_all.Goals as goal

pub returns : goal.returns
returns g c = answers_all g.P.Scheme.checks
