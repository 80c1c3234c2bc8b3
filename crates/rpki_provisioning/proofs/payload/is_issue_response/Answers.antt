use Rattle.std.proofs.Common.{ap}
use Rattle.rpki_provisioning.specs.Shape.{payload_shape}
use Rattle.rpki_provisioning.specs.declared.shape.PayloadShape.TheVariants as shape
use Rattle.rpki_provisioning.proofs.Alike.{alike, decided, never, same_issue_response, no_issue_response}
use Rattle.rpki_provisioning.proofs.payload.is_issue_response.Goals as goal

pub returns-in-IssueResponse : goal.returns-in-IssueResponse
unfolding payload_shape
returns-in-IssueResponse c = alike c.eq.result _ _ (λ x. shape.IssueResponse x) c.args.other.now (ap payload_shape c.in-IssueResponse.is) (same_issue_response _ _) (decided c.eq.result _ c.eq.ensures (c.equal_classes_have_the_same_octets.ensures.issuance c.args.response.now c.in-IssueResponse.others))

pub returns-in_default : goal.returns-in_default
returns-in_default c = never (no_issue_response _ c.args.other.now c.in_default.not-IssueResponse)
