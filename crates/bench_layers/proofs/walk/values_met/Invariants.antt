use Rattle.std.proofs.Common.{◌+◌, ◌≤◌, length}
use Rattle.rpki_der.specs.Walk.{left_in}
use Rattle.bench_layers.proofs.Onwards.{Stands}
use Rattle.bench_layers.proofs.walk.values_met.Given as goal

abbrev pub invariant-levels : goal.invariant-levels
invariant-levels l = record {
  stands : Stands l.fn.octets l.cursor;
  some : 1 ≤ l.count;
  most : l.count + length l.cursor.here + left_in l.cursor.levels ≤ length l.fn.octets;
}

abbrev pub decreases-levels : goal.decreases-levels
decreases-levels l = length l.cursor.here + left_in l.cursor.levels
