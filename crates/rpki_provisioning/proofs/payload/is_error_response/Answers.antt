use Rattle.std.proofs.Common.{ap}
use Rattle.rpki_provisioning.specs.Shape.{payload_shape}
use Rattle.rpki_provisioning.specs.declared.shape.PayloadShape.TheVariants as shape
use Rattle.rpki_provisioning.proofs.Alike.{alike, decided, never, same_error, no_error}
use Rattle.rpki_provisioning.proofs.payload.is_error_response.Goals as goal

pub returns-in-ErrorResponse : goal.returns-in-ErrorResponse
unfolding payload_shape
returns-in-ErrorResponse c = alike c.eq.result _ _ (λ x. shape.ErrorResponse x) c.args.other.now (ap payload_shape c.in-ErrorResponse.is) (same_error _ _) (decided c.eq.result _ c.eq.ensures (c.equal_values_are_the_same.ensures.not_performed c.args.response.now c.in-ErrorResponse.others))

pub returns-in_default : goal.returns-in_default
returns-in_default c = never (no_error _ c.args.other.now c.in_default.not-ErrorResponse)
