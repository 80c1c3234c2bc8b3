use Rattle.rpki_external.proofs.Finishing.{finished_believed}
use Rattle.rpki_external.proofs.law.finished_is_believed.Goals as goal

pub returns : goal.returns
returns g c = finished_believed g.P.Scheme.checks
