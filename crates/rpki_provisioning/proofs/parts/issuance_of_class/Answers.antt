use Rattle.std.proofs.Common.{rules, ap}
use Rattle.std.proofs.lemmas.Result.{err_from_is_err_and}
use Rattle.rpki_common.specs.Chaining.{◌>>=◌}
use Rattle.rpki_provisioning.specs.Class.{issuance_of_class}
use Rattle.rpki_provisioning.proofs.Firsts.{none_of_class}
use Rattle.rpki_provisioning.proofs.parts.issuance_of_class.Goals as goal

pub returns-in_err-issued_cert : goal.returns-in_err-issued_cert
returns-in_err-issued_cert c =
    let p = err_from_is_err_and c.from_residual.result c.from_residual.ensures.1 in
    rw p.1 (none_of_class c.args.class c.class.inside.issued_certs (ap (λ k. k.issued_certs) c.class.view_is) c.in_err-issued_cert.ensures)

pub returns : goal.returns
unfolding issuance_of_class ◌>>=◌
returns c = search rules
