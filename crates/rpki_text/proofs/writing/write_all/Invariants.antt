use Rattle.std.proofs.Common.{◌≡◌, ◌++◌, List, ℕ, length}
use Rattle.std.specs.Io.KnownBytes.{Appends}
use Rattle.rpki_text.proofs.writing.write_all.Given as goal

abbrev pub invariant-writing : goal.invariant-writing
invariant-writing g l = record {
  kept : g.O.Sink.faults l.sink ≡ g.O.Sink.faults l.initial.sink;
  appended : (front : List ℕ) × (l.octets ≡ front ++ l.rest)
      × Appends (g.O.Sink.written l.initial.sink) (g.O.Sink.written l.sink) front;
}

abbrev pub decreases-writing : goal.decreases-writing
decreases-writing g l = length l.rest
