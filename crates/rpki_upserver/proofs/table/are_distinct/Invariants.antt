use Rattle.std.proofs.Common.{◌↔◌, length}
use Rattle.rpki_upserver.specs.Table.{AreDistinctClasses}
use Rattle.rpki_upserver.proofs.table.are_distinct.Given as goal

abbrev pub invariant-loop-rest : goal.invariant-loop-rest
invariant-loop-rest l = AreDistinctClasses l.rest ↔ AreDistinctClasses l.classes

abbrev pub decreases-loop-rest : goal.decreases-loop-rest
decreases-loop-rest l = length l.rest
