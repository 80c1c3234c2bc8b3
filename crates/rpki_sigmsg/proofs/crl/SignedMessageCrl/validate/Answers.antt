use Rattle.std.proofs.Common.{ap}
use Rattle.rpki_base.specs.Checks.{failing}
use Rattle.rpki_sigmsg.specs.CrlChecks.{crl_kind}
use Rattle.rpki_sigmsg.proofs.Meaning.{decides_one, list_believed}
use Rattle.rpki_sigmsg.proofs.crl.SignedMessageCrl.validate.Goals as goal

pub returns-in-Ok-clause-believed : goal.returns-in-Ok-clause-believed
returns-in-Ok-clause-believed g c =
    list_believed g.P.Scheme.checks c.args.self.now c.args.issuer_key.now c.args.when _ (rw c.one.ensures at c.in-Ok.ensures.signed) (λ q d. ap (failing crl_kind) (rw c.one.ensures at (c.in-Ok.ensures.first_failing q) d))

pub returns-in-Ok-clause-first_failing : goal.returns-in-Ok-clause-first_failing
returns-in-Ok-clause-first_failing g c = λ q d.
    ap (failing crl_kind) (rw c.one.ensures at (c.in-Ok.ensures.first_failing q) (decides_one g.P.Scheme.checks c.args.self.now c.args.issuer_key.now q d))

pub returns-in-Err-clause-believed : goal.returns-in-Err-clause-believed
returns-in-Err-clause-believed g c =
    list_believed g.P.Scheme.checks c.args.self.now c.args.issuer_key.now c.args.when _ tt (λ q d. ap (failing crl_kind) (rw c.one.ensures at (c.in-Err.ensures.first_failing q) d))

pub returns-in-Err-clause-first_failing : goal.returns-in-Err-clause-first_failing
returns-in-Err-clause-first_failing g c = λ q d.
    ap (failing crl_kind) (rw c.one.ensures at (c.in-Err.ensures.first_failing q) (decides_one g.P.Scheme.checks c.args.self.now c.args.issuer_key.now q d))
