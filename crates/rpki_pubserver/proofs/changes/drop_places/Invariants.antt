use Rattle.std.proofs.Common.{◌≡◌, ℕ, List, take, true}
use Rattle.rpki_pubserver.specs.Places.{IsEmptyAt, IsSameElsewhere, has_change, live}
use Rattle.rpki_pubserver.proofs.changes.drop_places.Given as goal

-- no place is empty at the URIs of the first changes
abbrev pub invariant-loop-change : goal.invariant-loop-change
invariant-loop-change l = record {
  dropped : (uri : List ℕ) → has_change (take l.change-index l.changes) uri ≡ true → IsEmptyAt l.objects uri → ⊥;
  elsewhere : IsSameElsewhere l.changes l.initial.objects l.objects;
  same : live l.objects ≡ live l.initial.objects;
}
