use Rattle.rpki_base.proofs.Checking.{err_is, failed}
use Rattle.std.proofs.Common.{◌∙◌, sym}
use Rattle.rpki_sigmsg.specs.Checks.{message_checks}
use Rattle.rpki_sigmsg.proofs.Meaning.{said_of_all, signed_of_all}
use Rattle.rpki_sigmsg.proofs.message.SignedMessage.failure.Goals as goal

pub returns-in_err-own_failure-clause-first_failing : goal.returns-in_err-own_failure-clause-first_failing
returns-in_err-own_failure-clause-first_failing g c = λ q. err_is _ _ c.from_residual.ensures.1 ∙ sym (failed 1 (message_checks c.args.self.now q.q3) _ _ (c.in_err-own_failure.ensures.first_failing q.q3 q.attributes))

pub returns-clause-first_failing : goal.returns-clause-first_failing
returns-clause-first_failing g c = said_of_all g.P.Scheme.checks c.args.self.now c.args.issuer_key.now c.args.when c.key_failure.result c.in_ok-own_failure.ensures.first_failing c.key_failure.ensures.first_failing

pub returns-clause-signed : goal.returns-clause-signed
returns-clause-signed g c = signed_of_all g.P.Scheme.checks c.args.self.now c.args.issuer_key.now c.key_failure.result c.in_ok-own_failure.ensures.signed c.key_failure.ensures.certificate c.key_failure.ensures.crls
