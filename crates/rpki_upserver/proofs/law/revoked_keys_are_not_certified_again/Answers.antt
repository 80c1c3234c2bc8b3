use Rattle.rpki_upserver.proofs.Revoked.{never_again}
use Rattle.rpki_upserver.proofs.law.revoked_keys_are_not_certified_again.Goals as goal

pub returns : goal.returns
returns g c = never_again g.P.Scheme.checks
