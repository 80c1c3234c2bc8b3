use Rattle.std.proofs.Common.{ℕ, List, map, take}
use Rattle.std.specs.Io.KnownBytes.{Appends}
use Rattle.rpki_signer.specs.Limits.{Keeps}
use Rattle.rpki_ca.specs.Lines.{answer_lines}
use Rattle.rpki_ca.specs.Seen.{IsSteady, seen}
use Rattle.rpki_ca.specs.Steps.{AreSteps}
use Rattle.rpki_upserver.specs.Answering.{with_issuer}
use Rattle.rpki_upserver.specs.Serving.{IsLineAnswered, service_of}
use Rattle.rpki_upserver.proofs.serving.answer_all.Given as goal

abbrev pub invariant-loop-octets : goal.invariant-loop-octets
invariant-loop-octets g l = record {
  steady : IsSteady (seen g.O.Sink.written g.O.Sink.faults l.initial.output l.output);
  keeps : Keeps (g.S.Signer.state l.initial.signer) (g.S.Signer.state l.signer);
  texts : (texts : List (List ℕ))
      × AreSteps (IsLineAnswered g.P.Scheme.checks l.when l.key) (service_of (with_issuer l.initial.parent (g.N.Issuer.state l.initial.issuer)) (g.S.Signer.state l.initial.signer))
      (take l.octets-index (map (λ m. m.items) l.messages)) texts (service_of (with_issuer l.parent (g.N.Issuer.state l.issuer)) (g.S.Signer.state l.signer))
      × Appends (g.O.Sink.written l.initial.output) (g.O.Sink.written l.output) (answer_lines texts);
}
