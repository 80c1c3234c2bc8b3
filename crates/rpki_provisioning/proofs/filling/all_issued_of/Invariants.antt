use Rattle.std.proofs.Common.{length}
use Rattle.rpki_provisioning.specs.Filling.{issued_size}
use Rattle.rpki_provisioning.specs.Shape.{certificate_of, issued_by}
use Rattle.rpki_provisioning.proofs.Fills.{FilledTo}
use Rattle.rpki_provisioning.proofs.filling.all_issued_of.Given as goal

abbrev pub invariant-shapes : goal.invariant-shapes
invariant-shapes g l = FilledTo (issued_by certificate_of) issued_size l.fn.shapes l.left.rest.items l.all.items l.fn.steps l.steps

abbrev pub decreases-shapes : goal.decreases-shapes
decreases-shapes g l = length l.left.rest.items
