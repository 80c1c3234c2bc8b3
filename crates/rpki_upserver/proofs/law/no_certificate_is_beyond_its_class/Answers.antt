use Rattle.rpki_upserver.proofs.Outcomes.{within_class}
use Rattle.rpki_upserver.proofs.law.no_certificate_is_beyond_its_class.Goals as goal

pub returns : goal.returns
returns g c = within_class g.P.Scheme.checks
