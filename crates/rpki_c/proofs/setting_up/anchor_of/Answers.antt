use Rattle.std.proofs.Common.{rules}
use Rattle.std.proofs.lemmas.Result.{err_from_is_err_and}
use Rattle.rpki_external.specs.declared.setting_up.SetupError.TheVariants as setup
use Rattle.rpki_c.proofs.setting_up.anchor_of.Goals as goal

pub returns-in_err-certificate-clause-err : goal.returns-in_err-certificate-clause-err
returns-in_err-certificate-clause-err c =
    let p = err_from_is_err_and c.from_residual-in_err-certificate.result c.from_residual-in_err-certificate.ensures.1 in
    rw (p.1, p.2) (λ other.
    let why = c.in_err-certificate.ensures.err other in
    (setup.InvalidTaCertEncoding, record { message = c.in_ok-message.message; reads = c.in_ok-message.ensures.ok; none = why.1 }, why.0))

pub returns-clause-ok : goal.returns-clause-ok
returns-clause-ok c =
    (c.in_ok-message.message, c.in_ok-certificate.certificate, record { reads = c.in_ok-message.ensures.ok; begins = c.in_ok-certificate.ensures.ok }, search rules)
