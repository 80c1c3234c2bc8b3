use Rattle.std.proofs.Common.{◌+◌, ◌-◌, ◌≤◌, length}
use Rattle.rpki_der.specs.Walk.{left_in}
use Rattle.rpki_der.specs.Segments.{Joins}
use Rattle.rpki_der.proofs.OnwardWalks.{Below}
use Rattle.rpki_der.proofs.octets.take_joined_counted.Given as goal

-- an octet string stands where the cursor began exactly where what is left of the open levels can be joined to the octets so far
abbrev pub invariant-segments : goal.invariant-segments
invariant-segments g l = record {
  above : l.base ≤ length l.cursor.levels;
  joins : Joins l.fn.tag l.fn.cursor (length l.cursor.levels - l.base) l.cursor l.octets.items;
  later : l.fn.steps ≤ l.steps;
  below : Below l.fn.cursor l.fn.steps l.cursor l.steps;
}

abbrev pub decreases-segments : goal.decreases-segments
decreases-segments g l = length l.cursor.here + left_in l.cursor.levels
