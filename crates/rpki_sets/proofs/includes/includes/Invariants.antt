use Rattle.std.proofs.Common.{◌+◌, length}
use Rattle.rpki_sets.proofs.Walking.{IsLeft}
use Rattle.rpki_sets.proofs.includes.includes.Given as goal

abbrev pub invariant-walk : goal.invariant-walk
invariant-walk l = IsLeft l.all l.part l.held l.asked

abbrev pub decreases-walk : goal.decreases-walk
decreases-walk l = length l.held + length l.asked
