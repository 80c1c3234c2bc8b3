use Rattle.std.proofs.Common.{ℕ, List, take}
use Rattle.std.specs.Io.KnownBytes.{Appends}
use Rattle.rpki_ca.specs.Lines.{answer_lines}
use Rattle.rpki_ca.specs.Seen.{IsSteady, seen}
use Rattle.rpki_ca.specs.Steps.{AreSteps}
use Rattle.rpki_replay.specs.Answers.{IsGuardAnswered}
use Rattle.rpki_replay.proofs.running.answer_all.Given as goal

abbrev pub invariant-loop-sent : goal.invariant-loop-sent
invariant-loop-sent g l = record {
  steady : IsSteady (seen g.O.Sink.written g.O.Sink.faults l.initial.output l.output);
  texts : (texts : List (List ℕ)) × AreSteps (IsGuardAnswered g.P.Scheme.checks l.when) l.initial.guard (take l.sent-index l.messages) texts l.guard
      × Appends (g.O.Sink.written l.initial.output) (g.O.Sink.written l.output) (answer_lines texts);
}
