use Rattle.std.proofs.Common.{take}
use Rattle.std.specs.List.{AllByRecursion}
use Rattle.rpki_publication.specs.Change.{IsWritableChange}
use Rattle.rpki_publication.proofs.publish_delta.are_writable.Given as goal

abbrev pub invariant-loop-element : goal.invariant-loop-element
invariant-loop-element l = AllByRecursion IsWritableChange (take l.element-index l.changes)
