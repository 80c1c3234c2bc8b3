use Rattle.std.proofs.lemmas.Result.{err_from_is_err_and}
use Rattle.rpki_setup.proofs.Certificates.{no_certificate}
use Rattle.rpki_setup.proofs.validation.validate_idcert_at.Goals as goal

pub returns-in_err-certificate : goal.returns-in_err-certificate
returns-in_err-certificate g c =
    let p = err_from_is_err_and c.from_residual-in_err-certificate.result c.from_residual-in_err-certificate.ensures.1 in
    rw (p.1, p.2) (no_certificate g.P.Scheme.checks c.args.base64.now c.args.when c.in_err-certificate.field-0.0 (rw (c.as_slice.ensures, c.in_ok-octets.ensures) at c.in_err-certificate.ensures))
