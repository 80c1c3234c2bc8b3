use Rattle.rpki_pubserver.proofs.Ended.{replies_all}
use Rattle.rpki_pubserver.proofs.law.zero_replies_to_all.Goals as goal

pub returns : goal.returns
returns g c = λ when signer server. replies_all g.P.Scheme.checks when signer server
