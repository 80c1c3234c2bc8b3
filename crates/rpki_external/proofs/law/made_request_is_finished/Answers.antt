use Rattle.rpki_external.proofs.Requests.{request_finished}
use Rattle.rpki_external.proofs.law.made_request_is_finished.Goals as goal

pub returns : goal.returns
returns g c = λ id before after octets plan m key. request_finished g.P.Scheme.checks id before after octets plan m key
