use Rattle.std.proofs.Common.{length}
use Rattle.rpki_sets.specs.declared.run.Run.{Run}
use Rattle.rpki_sets.specs.Kinds.{spaced_item}
use Rattle.rpki_sets.proofs.ReadingLemmas.{IsReadTo}
use Rattle.rpki_sets.proofs.reading.read_parts.Given as goal

abbrev pub invariant-parts : goal.invariant-parts
invariant-parts g l = IsReadTo Run (spaced_item g.N.Numbers.kind) l.text l.rest l.runs.items

abbrev pub decreases-parts : goal.decreases-parts
decreases-parts g l = length l.rest
