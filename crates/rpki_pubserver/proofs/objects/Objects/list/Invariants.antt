use Rattle.std.proofs.Common.{◌≡◌, ◌++◌}
use Rattle.std.specs.List.{AllByRecursion}
use Rattle.rpki_publication.specs.ListReply.{IsWritableListElement}
use Rattle.rpki_pubserver.specs.Places.{live, placed}
use Rattle.rpki_pubserver.specs.Store.{listed_store}
use Rattle.rpki_pubserver.proofs.objects.Objects.list.Given as goal

-- those that are listed, and those that are there among what is left
abbrev pub invariant-loop-text : goal.invariant-loop-text
invariant-loop-text l = record {
  all : l.elements.items ++ listed_store (live (placed l.text-iterator)) ≡ listed_store (live l.self);
  writable : AllByRecursion IsWritableListElement l.elements.items;
}
