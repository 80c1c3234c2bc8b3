use Rattle.std.proofs.Common.{◌≡◌, ◌≤◌, ◌-◌, ℕ, None, length, get_or, map, take}
use Rattle.std.specs.Map.{keys_of}
use Rattle.rpki_pubserver.specs.Changes.{all_made}
use Rattle.rpki_pubserver.specs.Places.{IsSameElsewhere, live, object_of}
use Rattle.rpki_pubserver.proofs.changes.make_all.Given as goal

-- the first changes are made, and what the others put at their URIs is still to come
abbrev pub invariant-making : goal.invariant-making
invariant-making l = record {
  within : l.place ≤ length l.changes;
  size : length l.next ≡ length l.changes;
  rest : (k : ℕ) → l.place ≤ k → get_or l.next k None ≡ get_or (map object_of l.changes) k None;
  made : live l.objects ≡ all_made (live l.initial.objects) (take l.place l.changes);
  elsewhere : IsSameElsewhere l.changes l.initial.objects l.objects;
  keys : keys_of l.objects ≡ keys_of l.initial.objects;
}

abbrev pub decreases-making : goal.decreases-making
decreases-making l = length l.changes - l.place
