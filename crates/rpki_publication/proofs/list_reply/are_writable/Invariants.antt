use Rattle.std.proofs.Common.{take}
use Rattle.std.specs.List.{AllByRecursion}
use Rattle.rpki_publication.specs.ListReply.{IsWritableListElement}
use Rattle.rpki_publication.proofs.list_reply.are_writable.Given as goal

abbrev pub invariant-loop-element : goal.invariant-loop-element
invariant-loop-element l = AllByRecursion IsWritableListElement (take l.element-index l.elements)
