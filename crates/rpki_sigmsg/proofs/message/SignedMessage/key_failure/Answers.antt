use Rattle.std.proofs.Common.{◌∙◌, sym}
use Rattle.rpki_idcert.specs.Checks.{ee_checks}
use Rattle.rpki_base.proofs.Checking.{err_is, passed, failed}
use Rattle.rpki_sigmsg.specs.CrlChecks.{crl_checks}
use Rattle.rpki_sigmsg.proofs.Meaning.{on_ok_always}
use Rattle.rpki_sigmsg.proofs.message.SignedMessage.key_failure.Goals as goal

pub returns-in_err-ee_failure-clause-first_failing : goal.returns-in_err-ee_failure-clause-first_failing
returns-in_err-ee_failure-clause-first_failing g c = λ q8 q10 certificate crls.
    err_is _ _ c.from_residual.ensures.1
    ∙ sym (failed 4 (ee_checks c.args.self.now.certificate c.args.issuer_key.now c.args.when q8) _ _ (rw c.ee_cert.ensures at (c.in_err-ee_failure.ensures.first_failing q8) certificate))

pub returns-in_err-crls_failure-clause-first_failing : goal.returns-in_err-crls_failure-clause-first_failing
returns-in_err-crls_failure-clause-first_failing g c = λ q8 q10 certificate crls.
    err_is _ _ c.from_residual-in_err-crls_failure.ensures.1
    ∙ sym (passed 4 (ee_checks c.args.self.now.certificate c.args.issuer_key.now c.args.when q8) _ _ (rw c.ee_cert.ensures at (c.in_ok-ee_failure.ensures.first_failing q8) certificate)
    ∙ failed 9 (crl_checks c.args.self.now.crls c.args.issuer_key.now c.args.when q10) _ _ (rw c.crls.ensures.crls at (c.in_err-crls_failure.ensures.first_failing q10) crls))

pub returns-clause-first_failing : goal.returns-clause-first_failing
returns-clause-first_failing g c = λ q8 q10 certificate crls.
    c.require.ensures
    ∙ rw c.is_not_revoked.ensures (sym (passed 4 (ee_checks c.args.self.now.certificate c.args.issuer_key.now c.args.when q8) _ _ (rw c.ee_cert.ensures at (c.in_ok-ee_failure.ensures.first_failing q8) certificate)
    ∙ passed 9 (crl_checks c.args.self.now.crls c.args.issuer_key.now c.args.when q10) _ _ (rw c.crls.ensures.crls at (c.in_ok-crls_failure.ensures.first_failing q10) crls)))

pub returns-clause-certificate : goal.returns-clause-certificate
returns-clause-certificate g c = on_ok_always c.require.result (rw c.ee_cert.ensures at c.in_ok-ee_failure.ensures.signed)

pub returns-clause-crls : goal.returns-clause-crls
returns-clause-crls g c = on_ok_always c.require.result (rw c.crls.ensures.crls at c.in_ok-crls_failure.ensures.signed)
