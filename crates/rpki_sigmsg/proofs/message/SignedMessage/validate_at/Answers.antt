use Rattle.std.proofs.Common.{ap}
use Rattle.rpki_base.specs.Checks.{failing}
use Rattle.rpki_sigmsg.specs.Checks.{kind_of}
use Rattle.rpki_sigmsg.proofs.Meaning.{believed}
use Rattle.rpki_sigmsg.proofs.message.SignedMessage.validate_at.Goals as goal

pub returns-in-Ok-clause-first_failing : goal.returns-in-Ok-clause-first_failing
returns-in-Ok-clause-first_failing g c = λ q. ap (failing kind_of) (c.in-Ok.ensures.first_failing q)

pub returns-in-Err-clause-first_failing : goal.returns-in-Err-clause-first_failing
returns-in-Err-clause-first_failing g c = λ q. rw c.kind_of.ensures (ap (failing kind_of) (c.in-Err.ensures.first_failing q))

pub returns-in-Ok-clause-believed : goal.returns-in-Ok-clause-believed
returns-in-Ok-clause-believed g c = believed g.P.Scheme.checks c.args.self.now c.args.issuer_key.now c.args.when _ c.in-Ok.ensures.signed (λ q. ap (failing kind_of) (c.in-Ok.ensures.first_failing q))

pub returns-in-Err-clause-believed : goal.returns-in-Err-clause-believed
returns-in-Err-clause-believed g c = believed g.P.Scheme.checks c.args.self.now c.args.issuer_key.now c.args.when _ tt (λ q. rw c.kind_of.ensures (ap (failing kind_of) (c.in-Err.ensures.first_failing q)))
