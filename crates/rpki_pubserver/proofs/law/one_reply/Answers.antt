use Rattle.rpki_pubserver.proofs.Replied as replied
use Rattle.rpki_pubserver.proofs.law.one_reply.Goals as goal

pub returns : goal.returns
returns g c = replied.one_reply g.P.Scheme.checks
