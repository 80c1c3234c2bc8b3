use Rattle.rpki_upserver.proofs.Told.{once_so}
use Rattle.rpki_upserver.proofs.law.a_class_holds_one_certificate_a_key.Goals as goal

pub returns : goal.returns
returns g c = once_so g.P.Scheme.checks
