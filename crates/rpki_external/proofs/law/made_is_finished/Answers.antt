use Rattle.rpki_external.proofs.Finishing.{made_finished}
use Rattle.rpki_external.proofs.law.made_is_finished.Goals as goal

pub returns : goal.returns
returns g c = made_finished g.P.Scheme.checks
