use Rattle.std.proofs.Common.{◌≡◌, ◌++◌, map}
use Rattle.rpki_replay.specs.State.{IsState}
use Rattle.rpki_replay.specs.StateText.{peer_line}
use Rattle.rpki_replay.proofs.preparing.guard_in.Given as goal

abbrev pub invariant-loop-line : goal.invariant-loop-line
invariant-loop-line l = record {
  can : (goal.iterator-loop-line).can_next l.lines;
  finite : (goal.iterator-loop-line).is_finite l.lines;
  state : IsState l.guard;
  lines : map peer_line l.guard ++ l.lines ≡ l.initial.lines;
}
