use Rattle.rpki_ca.proofs.Laws.{written_alike}
use Rattle.rpki_ca.proofs.law.rewritten_is_received_alike.Goals as goal

pub returns : goal.returns
returns g c = written_alike g.P.Scheme.checks
