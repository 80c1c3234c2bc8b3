use Rattle.rpki_upserver.proofs.Told.{told_so}
use Rattle.rpki_upserver.proofs.law.what_is_told_was_issued_and_not_revoked.Goals as goal

pub returns : goal.returns
returns g c = told_so g.P.Scheme.checks
