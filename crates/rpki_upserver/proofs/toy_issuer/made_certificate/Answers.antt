use Rattle.rpki_upserver.proofs.Outer.{same_key}
use Rattle.rpki_upserver.proofs.toy_issuer.made_certificate.Goals as goal

pub returns-in-Ok-clause-key : goal.returns-in-Ok-clause-key
returns-in-Ok-clause-key c = same_key c.args.cert.now c.in-Ok.cert c.requires c.in-Ok.ensures.spelled c.in-Ok.ensures.decoded
