use Rattle.std.proofs.Common.{◌≡◌, map, take}
use Rattle.rpki_pubserver.specs.Places.{HavePlaces, IsSameElsewhere, live, object_of}
use Rattle.rpki_pubserver.proofs.changes.prepare.Given as goal

abbrev pub invariant-loop-change : goal.invariant-loop-change
invariant-loop-change l = record {
  next : l.next.items ≡ map object_of (take l.change-index l.changes);
  places : HavePlaces l.objects (take l.change-index l.changes);
  elsewhere : IsSameElsewhere l.changes l.initial.objects l.objects;
  same : live l.objects ≡ live l.initial.objects;
}
