use Rattle.std.proofs.Common.{length}
use Rattle.rpki_xml.proofs.NameSets.{Seen}
use Rattle.rpki_xml.specs.Kept.{attributes_of}
use Rattle.rpki_xml.proofs.distinct.is_distinct_by_set.Given as goal

abbrev pub invariant-loop-last : goal.invariant-loop-last
invariant-loop-last l = Seen l.names (attributes_of l.source l.attributes) (attributes_of l.source l.left)

abbrev pub decreases-loop-last : goal.decreases-loop-last
decreases-loop-last l = length l.left
