use Rattle.std.proofs.Common.{◌≡◌, length}
use Rattle.rpki_xml.specs.Content.{is_distinct}
use Rattle.rpki_xml.specs.Kept.{attributes_of}
use Rattle.rpki_xml.proofs.distinct.is_distinct_in_pairs.Given as goal

abbrev pub invariant-loop-rest : goal.invariant-loop-rest
invariant-loop-rest l = is_distinct (attributes_of l.source l.rest) ≡ is_distinct (attributes_of l.source l.attributes)

abbrev pub decreases-loop-rest : goal.decreases-loop-rest
decreases-loop-rest l = length l.rest
