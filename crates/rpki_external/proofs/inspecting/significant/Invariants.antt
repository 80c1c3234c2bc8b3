use Rattle.std.proofs.Common.{◌≡◌, length}
use Rattle.rpki_base.specs.Serial.{significant as significant_of}
use Rattle.rpki_external.proofs.inspecting.significant.Given as goal

abbrev pub invariant-zeros : goal.invariant-zeros
invariant-zeros l = significant_of l.rest ≡ significant_of l.octets

abbrev pub decreases-zeros : goal.decreases-zeros
decreases-zeros l = length l.rest
