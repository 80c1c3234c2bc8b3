use Rattle.std.proofs.Common.{ap}
use Rattle.rpki_provisioning.specs.Shape.{payload_shape}
use Rattle.rpki_provisioning.specs.declared.shape.PayloadShape.TheVariants as shape
use Rattle.rpki_provisioning.proofs.Alike.{alike, decided, never, same_revoke, no_revoke}
use Rattle.rpki_provisioning.proofs.payload.is_revoke.Goals as goal

pub returns-in-Revoke : goal.returns-in-Revoke
unfolding payload_shape
returns-in-Revoke c = alike c.eq.result _ _ (λ x. shape.Revoke x) c.args.other.now (ap payload_shape c.in-Revoke.is) (same_revoke _ _) (decided c.eq.result _ c.eq.ensures (c.equal_values_are_the_same.ensures.request c.args.request.now c.in-Revoke.others))

pub returns-in_default : goal.returns-in_default
returns-in_default c = never (no_revoke _ c.args.other.now c.in_default.not-Revoke)
