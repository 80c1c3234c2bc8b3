use Rattle.std.proofs.Common.{◌+◌, [], length}
use Rattle.rpki_der.specs.Growth.{left_at, DescendsTree}
use Rattle.rpki_der.proofs.index.index_value.Given as goal

-- a value with these entries begins the octets exactly where the values that are still open can be completed so
abbrev pub invariant-levels : goal.invariant-levels
invariant-levels l = DescendsTree l.mode l.octets [] [] l.here l.levels.items l.entries.items

abbrev pub decreases-levels : goal.decreases-levels
decreases-levels l = length l.here + left_at l.levels.items
