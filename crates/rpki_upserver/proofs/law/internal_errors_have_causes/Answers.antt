use Rattle.rpki_upserver.proofs.Causes.{wrong_or_rose}
use Rattle.rpki_upserver.proofs.law.internal_errors_have_causes.Goals as goal

pub returns : goal.returns
returns g c = wrong_or_rose g.P.Scheme.checks
