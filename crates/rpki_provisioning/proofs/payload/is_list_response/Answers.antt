use Rattle.std.proofs.Common.{ap}
use Rattle.rpki_provisioning.specs.Shape.{payload_shape}
use Rattle.rpki_provisioning.specs.declared.shape.PayloadShape.TheVariants as shape
use Rattle.rpki_provisioning.proofs.Alike.{alike, decided, never, same_list, no_list_response}
use Rattle.rpki_provisioning.proofs.payload.is_list_response.Goals as goal

pub returns-in-ListResponse : goal.returns-in-ListResponse
unfolding payload_shape
returns-in-ListResponse c = alike c.eq.result _ _ (λ x. shape.ListResponse x) c.args.other.now (ap payload_shape c.in-ListResponse.is) (same_list _ _) (decided c.eq.result _ c.eq.ensures (c.equal_class_lists_have_the_same_octets.ensures c.args.classes.now c.in-ListResponse.others))

pub returns-in_default : goal.returns-in_default
returns-in_default c = never (no_list_response _ c.args.other.now c.in_default.not-ListResponse)
