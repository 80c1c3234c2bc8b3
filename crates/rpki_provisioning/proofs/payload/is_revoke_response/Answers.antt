use Rattle.std.proofs.Common.{ap}
use Rattle.rpki_provisioning.specs.Shape.{payload_shape}
use Rattle.rpki_provisioning.specs.declared.shape.PayloadShape.TheVariants as shape
use Rattle.rpki_provisioning.proofs.Alike.{alike, decided, never, same_revoke_response, no_revoke_response}
use Rattle.rpki_provisioning.proofs.payload.is_revoke_response.Goals as goal

pub returns-in-RevokeResponse : goal.returns-in-RevokeResponse
unfolding payload_shape
returns-in-RevokeResponse c = alike c.eq.result _ _ (λ x. shape.RevokeResponse x) c.args.other.now (ap payload_shape c.in-RevokeResponse.is) (same_revoke_response _ _) (decided c.eq.result _ c.eq.ensures (c.equal_values_are_the_same.ensures.response c.args.response.now c.in-RevokeResponse.others))

pub returns-in_default : goal.returns-in_default
returns-in_default c = never (no_revoke_response _ c.args.other.now c.in_default.not-RevokeResponse)
