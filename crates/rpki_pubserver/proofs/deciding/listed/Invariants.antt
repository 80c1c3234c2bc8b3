use Rattle.std.proofs.Common.{◌≡◌, take}
use Rattle.std.specs.List.{AllByRecursion}
use Rattle.rpki_publication.specs.ListReply.{IsWritableListElement}
use Rattle.rpki_pubserver.specs.Deciding.{known_objects}
use Rattle.rpki_pubserver.proofs.deciding.listed.Given as goal

abbrev pub invariant-loop-one : goal.invariant-loop-one
invariant-loop-one l = record {
  list : l.elements.items ≡ known_objects (take l.one-index l.known);
  writable : AllByRecursion IsWritableListElement l.elements.items;
}
