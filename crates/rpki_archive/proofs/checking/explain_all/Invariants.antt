use Rattle.rpki_ca.specs.Lines.{lines_of}
use Rattle.rpki_ca.specs.Seen.{IsSteady, seen}
use Rattle.rpki_archive.proofs.SoFar.{ExplainedSo}
use Rattle.rpki_archive.proofs.checking.explain_all.Given as goal

abbrev pub invariant-loop-line : goal.invariant-loop-line
invariant-loop-line g l = record {
  steady : IsSteady (seen g.O.Sink.written g.O.Sink.faults l.initial.output l.output);
  so_far : ExplainedSo g.P.Scheme.checks (lines_of l.input) l.line-iterator (g.O.Sink.written l.initial.output) (g.O.Sink.written l.output);
}
