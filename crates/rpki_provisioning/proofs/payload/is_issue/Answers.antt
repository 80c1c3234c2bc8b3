use Rattle.std.proofs.Common.{ap}
use Rattle.rpki_updown.specs.Entitlements.{asked_with}
use Rattle.rpki_provisioning.specs.Shape.{payload_shape, request_octets}
use Rattle.rpki_provisioning.specs.declared.shape.PayloadShape.TheVariants as shape
use Rattle.rpki_provisioning.proofs.Alike.{alike_of, asked_alike, never, same_issue, no_issue}
use Rattle.rpki_provisioning.proofs.payload.is_issue.Goals as goal

pub returns-in-Issue : goal.returns-in-Issue
unfolding payload_shape
returns-in-Issue c =
    alike_of c.equals.result (asked_with request_octets c.args.request.now) (asked_with request_octets c.in-Issue.others) (λ x. shape.Issue x) c.args.other.now (ap payload_shape c.in-Issue.is) (same_issue _ _)
    (asked_alike c.equals.result c.args.request.now c.in-Issue.others c.equals.ensures)

pub returns-in_default : goal.returns-in_default
returns-in_default c = never (no_issue _ c.args.other.now c.in_default.not-Issue)
