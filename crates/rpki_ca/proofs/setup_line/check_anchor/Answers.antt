use Rattle.std.proofs.Common.{subst}
use Rattle.std.proofs.lemmas.Result.{err_from_is_err_and}
use Rattle.rpki_setup.specs.Answers.{RefusesCertificate}
use Rattle.rpki_ca.proofs.SettingUp.{anchor}
use Rattle.rpki_ca.specs.Setup.{certificate_octets}
use Rattle.rpki_ca.proofs.setup_line.check_anchor.Goals as goal

pub returns-in_err-validate_idcert_at-clause-err : goal.returns-in_err-validate_idcert_at-clause-err
returns-in_err-validate_idcert_at-clause-err g c =
    let p = err_from_is_err_and c.from_residual.result c.from_residual.ensures.1 in
    let here = subst (λ o. RefusesCertificate g.P.Scheme.checks o c.args.when c.in_err-validate_idcert_at.field-0.0) c.id_cert.ensures c.in_err-validate_idcert_at.ensures in
    rw (p.1, p.2) (anchor g.P.Scheme.checks (certificate_octets c.args.message.now) c.args.when c.in_err-validate_idcert_at.field-0.0 here)
