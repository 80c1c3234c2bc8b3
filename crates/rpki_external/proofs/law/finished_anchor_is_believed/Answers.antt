use Rattle.rpki_external.proofs.Anchors.{anchor_believed}
use Rattle.rpki_external.proofs.law.finished_anchor_is_believed.Goals as goal

pub returns : goal.returns
returns g c = anchor_believed g.P.Scheme.checks
