use Rattle.std.proofs.Common.{◌≡◌, ◌++◌, map}
use Rattle.rpki_ca.specs.Lines.{lines_of}
use Rattle.rpki_replay.specs.State.{IsState}
use Rattle.rpki_replay.specs.StateText.{peer_line}
use Rattle.rpki_replay.proofs.guard.Guard.from_text.Given as goal

abbrev pub invariant-loop-line : goal.invariant-loop-line
invariant-loop-line l = record {
  state : IsState l.guard;
  lines : map peer_line l.guard ++ l.line-iterator ≡ lines_of l.text;
}
