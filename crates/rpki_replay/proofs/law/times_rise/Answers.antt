use Rattle.rpki_replay.proofs.Rising.{rising}
use Rattle.rpki_replay.proofs.law.times_rise.Goals as goal

pub returns : goal.returns
returns g c = rising g.P.Scheme.checks
