use Rattle.rpki_replay.proofs.Rising.{not_twice}
use Rattle.rpki_replay.proofs.law.none_is_admitted_twice.Goals as goal

pub returns : goal.returns
returns g c = not_twice g.P.Scheme.checks
