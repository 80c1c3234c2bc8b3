use Rattle.rpki_pubserver.proofs.Replied.{unaccepted_leaves}
use Rattle.rpki_pubserver.proofs.law.others_change_nothing.Goals as goal

pub returns : goal.returns
returns g c = unaccepted_leaves g.P.Scheme.checks
