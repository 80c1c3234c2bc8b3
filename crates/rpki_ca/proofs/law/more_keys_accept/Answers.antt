use Rattle.rpki_ca.proofs.Laws.{more_accept}
use Rattle.rpki_ca.proofs.law.more_keys_accept.Goals as goal

pub returns : goal.returns
returns g c = more_accept g.P.Scheme.checks
