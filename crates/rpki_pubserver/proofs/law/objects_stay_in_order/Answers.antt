use Rattle.rpki_pubserver.proofs.Replied.{ascend_still}
use Rattle.rpki_pubserver.proofs.law.objects_stay_in_order.Goals as goal

pub returns : goal.returns
returns g c = ascend_still g.P.Scheme.checks
