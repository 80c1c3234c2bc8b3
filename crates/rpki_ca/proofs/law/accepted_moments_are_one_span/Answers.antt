use Rattle.rpki_ca.proofs.Laws.{accepted_span}
use Rattle.rpki_ca.proofs.law.accepted_moments_are_one_span.Goals as goal

pub returns : goal.returns
returns g c = accepted_span g.P.Scheme.checks
