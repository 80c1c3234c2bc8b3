use Rattle.std.proofs.Common.{List, length, sum_by}
use Rattle.std.proofs.lemmas.Result.{err_from_is_err_and}
use Rattle.rpki_cert.specs.Cert.{CertFields}
use Rattle.rpki_sets.specs.Texts.{read_all}
use Rattle.rpki_updown.specs.declared.error.Error.TheVariants.{CertSyntax}
use Rattle.rpki_updown.specs.Entitlements.{IssuedOf, SigningOf, ClassOf}
use Rattle.rpki_provisioning.specs.Filling.{issued_size}
use Rattle.rpki_provisioning.specs.Shape.{certificate_of, issued_by, signing_by, class_by}
use Rattle.rpki_provisioning.proofs.Fills.{two, not_first, not_second}
use Rattle.rpki_provisioning.proofs.filling.class_of.Goals as goal

pub returns-in_err-issued : goal.returns-in_err-issued
unfolding class_by
returns-in_err-issued g c =
    let p = err_from_is_err_and c.from_residual.result c.from_residual.ensures.1 in
    let build : (List (IssuedOf CertFields)) → SigningOf CertFields → ClassOf CertFields = (λ issued signing. record { class_name = c.shape.inside.class_name; resource_set = c.shape.inside.resource_set; not_after = c.shape.inside.not_after; issued_certs = issued; signing_cert = signing }) in
    rw (p.1, p.2) (rw (← c.shape.view_is) (not_first CertSyntax c.in_err-issued.field-0.0 build (read_all (issued_by certificate_of) c.shape.inside.issued_certs) (signing_by certificate_of c.shape.inside.signing_cert)
    (sum_by issued_size c.shape.inside.issued_certs) (length c.shape.inside.signing_cert.cert) c.args.steps.now c.all_issued_of.new.steps c.in_err-issued.ensures))

pub returns-in_err-signing : goal.returns-in_err-signing
unfolding class_by
returns-in_err-signing g c =
    let p = err_from_is_err_and c.from_residual-in_err-signing.result c.from_residual-in_err-signing.ensures.1 in
    let build : (List (IssuedOf CertFields)) → SigningOf CertFields → ClassOf CertFields = (λ issued signing. record { class_name = c.shape.inside.class_name; resource_set = c.shape.inside.resource_set; not_after = c.shape.inside.not_after; issued_certs = issued; signing_cert = signing }) in
    rw (p.1, p.2) (rw (← c.shape.view_is) (not_second CertSyntax c.in_err-signing.field-0.0 build (read_all (issued_by certificate_of) c.shape.inside.issued_certs) (signing_by certificate_of c.shape.inside.signing_cert)
    (sum_by issued_size c.shape.inside.issued_certs) (length c.shape.inside.signing_cert.cert) c.args.steps.now c.all_issued_of.new.steps c.signing_of.new.steps c.in_ok-issued.issued.items c.in_ok-issued.ensures c.in_err-signing.ensures))

pub returns : goal.returns
unfolding class_by
returns g c =
    let build : (List (IssuedOf CertFields)) → SigningOf CertFields → ClassOf CertFields = (λ issued signing. record { class_name = c.shape.inside.class_name; resource_set = c.shape.inside.resource_set; not_after = c.shape.inside.not_after; issued_certs = issued; signing_cert = signing }) in
    rw c.new.ensures (rw (← c.shape.view_is) (two build (read_all (issued_by certificate_of) c.shape.inside.issued_certs) (signing_by certificate_of c.shape.inside.signing_cert)
    (sum_by issued_size c.shape.inside.issued_certs) (length c.shape.inside.signing_cert.cert) c.args.steps.now c.all_issued_of.new.steps c.signing_of.new.steps c.in_ok-issued.issued.items c.in_ok-signing.signing c.in_ok-issued.ensures c.in_ok-signing.ensures))
