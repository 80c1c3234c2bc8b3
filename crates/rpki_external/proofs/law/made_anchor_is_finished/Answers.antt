use Rattle.rpki_external.proofs.Anchors.{anchor_finished}
use Rattle.rpki_external.proofs.law.made_anchor_is_finished.Goals as goal

pub returns : goal.returns
returns g c = anchor_finished g.P.Scheme.checks
