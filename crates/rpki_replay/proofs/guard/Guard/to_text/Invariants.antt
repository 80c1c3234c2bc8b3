use Rattle.std.proofs.Common.{◌≡◌, string_bytes, take}
use Rattle.std.specs.List.{AllByRecursion}
use Rattle.rpki_replay.specs.State.{IsPeer}
use Rattle.rpki_replay.specs.StateText.{state_text}
use Rattle.rpki_replay.proofs.guard.Guard.to_text.Given as goal

abbrev pub invariant-loop-peer : goal.invariant-loop-peer
invariant-loop-peer l = record {
  text : string_bytes l.text ≡ state_text (take l.peer-index l.peer-items);
  each : AllByRecursion IsPeer (take l.peer-index l.peer-items);
}
