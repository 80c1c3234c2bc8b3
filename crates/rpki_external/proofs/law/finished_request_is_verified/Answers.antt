use Rattle.rpki_external.proofs.Requests.{request_verified}
use Rattle.rpki_external.proofs.law.finished_request_is_verified.Goals as goal

pub returns : goal.returns
returns g c = request_verified g.P.Scheme.checks
