use Rattle.std.proofs.Common.{arith, refl, sum_by, length}
use Rattle.std.proofs.lemmas.Result.{err_from_is_err_and}
use Rattle.rpki_sets.specs.Texts.{read_all}
use Rattle.rpki_updown.specs.declared.error.Error.TheVariants.{CertSyntax, InvalidCsrSyntax}
use Rattle.rpki_provisioning.specs.declared.payload.Payload.TheVariants as payload
use Rattle.rpki_provisioning.specs.Filling.{class_size, issuance_size}
use Rattle.rpki_provisioning.specs.Shape.{certificate_of, request_of, class_by, issuance_by, asked_by, payload_of_shape}
use Rattle.rpki_provisioning.proofs.Fills.{one, not_one}
use Rattle.rpki_provisioning.proofs.filling.payload_of.Goals as goal

pub returns-in_err-classes-in-ListResponse : goal.returns-in_err-classes-in-ListResponse
unfolding payload_of_shape
returns-in_err-classes-in-ListResponse g c =
    let p = err_from_is_err_and c.from_residual.result c.from_residual.ensures.1 in
    rw (p.1, p.2) (rw c.in-ListResponse.is (not_one CertSyntax (c.in_err-classes-in-ListResponse).field-0.0 payload.ListResponse (read_all (class_by certificate_of) c.in-ListResponse.classes) (sum_by class_size c.in-ListResponse.classes) c.args.steps.now c.classes_of.new.steps (c.in_err-classes-in-ListResponse).ensures))

pub returns-in_ok-classes-in-ListResponse : goal.returns-in_ok-classes-in-ListResponse
unfolding payload_of_shape
returns-in_ok-classes-in-ListResponse g c = rw c.in-ListResponse.is (rw c.new.ensures (one payload.ListResponse (read_all (class_by certificate_of) c.in-ListResponse.classes) (sum_by class_size c.in-ListResponse.classes) c.args.steps.now c.classes_of.new.steps (c.in_ok-classes-in-ListResponse.classes.items) (c.in_ok-classes-in-ListResponse).ensures))

pub returns-in_err-asked_of-in-Issue : goal.returns-in_err-asked_of-in-Issue
unfolding payload_of_shape
returns-in_err-asked_of-in-Issue g c =
    let p = err_from_is_err_and c.from_residual-in_err-asked_of-in-Issue.result c.from_residual-in_err-asked_of-in-Issue.ensures.1 in
    rw (p.1, p.2) (rw c.in-Issue.is (not_one InvalidCsrSyntax (c.in_err-asked_of-in-Issue).field-0.0 payload.Issue (asked_by request_of c.in-Issue.request) (length c.in-Issue.request.csr) c.args.steps.now c.asked_of.new.steps (c.in_err-asked_of-in-Issue).ensures))

pub returns-in_ok-asked_of-in-Issue : goal.returns-in_ok-asked_of-in-Issue
unfolding payload_of_shape
returns-in_ok-asked_of-in-Issue g c = rw c.in-Issue.is ((one payload.Issue (asked_by request_of c.in-Issue.request) (length c.in-Issue.request.csr) c.args.steps.now c.asked_of.new.steps (c.in_ok-asked_of-in-Issue.field-0) (c.in_ok-asked_of-in-Issue).ensures))

pub returns-in_err-issuance_of-in-IssueResponse : goal.returns-in_err-issuance_of-in-IssueResponse
unfolding payload_of_shape
returns-in_err-issuance_of-in-IssueResponse g c =
    let p = err_from_is_err_and c.from_residual-in_err-issuance_of-in-IssueResponse.result c.from_residual-in_err-issuance_of-in-IssueResponse.ensures.1 in
    rw (p.1, p.2) (rw c.in-IssueResponse.is (not_one CertSyntax (c.in_err-issuance_of-in-IssueResponse).field-0.0 payload.IssueResponse (issuance_by certificate_of c.in-IssueResponse.response) (issuance_size c.in-IssueResponse.response) c.args.steps.now c.issuance_of.new.steps (c.in_err-issuance_of-in-IssueResponse).ensures))

pub returns-in_ok-issuance_of-in-IssueResponse : goal.returns-in_ok-issuance_of-in-IssueResponse
unfolding payload_of_shape
returns-in_ok-issuance_of-in-IssueResponse g c = rw c.in-IssueResponse.is ((one payload.IssueResponse (issuance_by certificate_of c.in-IssueResponse.response) (issuance_size c.in-IssueResponse.response) c.args.steps.now c.issuance_of.new.steps (c.in_ok-issuance_of-in-IssueResponse.field-0) (c.in_ok-issuance_of-in-IssueResponse).ensures))

pub returns-in-List : goal.returns-in-List
unfolding payload_of_shape
returns-in-List g c = rw c.in-List.is (record { gives = refl; least = omega (arith); most = omega (arith) })

pub returns-in-Revoke : goal.returns-in-Revoke
unfolding payload_of_shape
returns-in-Revoke g c = rw c.in-Revoke.is (record { gives = refl; least = omega (arith); most = omega (arith) })

pub returns-in-RevokeResponse : goal.returns-in-RevokeResponse
unfolding payload_of_shape
returns-in-RevokeResponse g c = rw c.in-RevokeResponse.is (record { gives = refl; least = omega (arith); most = omega (arith) })

pub returns-in-ErrorResponse : goal.returns-in-ErrorResponse
unfolding payload_of_shape
returns-in-ErrorResponse g c = rw c.in-ErrorResponse.is (record { gives = refl; least = omega (arith); most = omega (arith) })
