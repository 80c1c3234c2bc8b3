use Rattle.rpki_pubserver.proofs.Replied.{lie_still}
use Rattle.rpki_pubserver.proofs.law.objects_lie_under_the_base.Goals as goal

pub returns : goal.returns
returns g c = lie_still g.P.Scheme.checks
