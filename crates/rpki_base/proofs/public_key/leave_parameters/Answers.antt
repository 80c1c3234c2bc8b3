use Rattle.std.proofs.Common.{refl}
use Rattle.rpki_der.proofs.Leftovers.{rest_wider}
use Rattle.rpki_base.proofs.public_key.leave_parameters.Goals as goal

pub returns-in-EcdsaP256 : goal.returns-in-EcdsaP256
returns-in-EcdsaP256 g c = rw c.in-EcdsaP256.is (rest_wider _ _ _ _ _ _ _ _ _ _ refl c.leave_curve.ensures)
