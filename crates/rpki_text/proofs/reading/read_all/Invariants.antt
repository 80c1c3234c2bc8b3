use Rattle.std.proofs.Common.{◌≡◌, ◌≤◌, ◌-◌, length, vec_len}
use Rattle.std.specs.Io.KnownBytes.{Consumes}
use Rattle.rpki_text.proofs.reading.read_all.Given as goal

abbrev pub invariant-reading : goal.invariant-reading
invariant-reading g l = record {
  taken : Consumes (g.I.Source.rest l.initial.source) (g.I.Source.rest l.source) l.out.items;
  within : length l.out.items ≤ l.limit;
  kept : g.I.Source.faults l.source ≡ g.I.Source.faults l.initial.source;
}

abbrev pub decreases-reading : goal.decreases-reading
decreases-reading g l = l.limit - vec_len l.out
