use Rattle.std.proofs.Common.{◌+◌, ◌≤◌, length}
use Rattle.rpki_der.specs.Walk.{left_in}
use Rattle.rpki_der.specs.Levels.{HasRoom}
use Rattle.rpki_der.specs.Ticks.{behind}
use Rattle.rpki_der.proofs.Walks.{LeadsTo}
use Rattle.rpki_der.proofs.ExactWalks.{LeadsExactly}
use Rattle.rpki_der.proofs.Stops.{Passed}
use Rattle.rpki_der.proofs.walk.skip_levels.Given as goal

-- what completes the levels from the octets on is what completes those that are still open
abbrev pub invariant-levels : goal.invariant-levels
invariant-levels g l = record {
  onward : LeadsTo l.mode l.octets l.fn.opened l.here l.opened;
  counted : LeadsExactly l.mode l.octets l.fn.opened l.fn.steps l.here l.opened l.steps;
  room : HasRoom l.here l.opened;
  passed : Passed l.mode l.octets l.fn.opened l.fn.steps l.here l.opened l.steps;
  later : l.fn.steps ≤ l.steps;
  most : l.steps + length l.here + behind l.opened ≤ l.fn.steps + length l.octets + behind l.fn.opened;
}

abbrev pub decreases-levels : goal.decreases-levels
decreases-levels g l = length l.here + left_in l.opened
