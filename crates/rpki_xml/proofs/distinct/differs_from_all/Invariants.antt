use Rattle.std.proofs.Common.{◌≡◌, not, drop}
use Rattle.std.specs.List.{list_all}
use Rattle.std.specs.Str.{bytes_eq}
use Rattle.rpki_xml.specs.Kept.{attributes_of}
use Rattle.rpki_xml.proofs.distinct.differs_from_all.Given as goal

abbrev pub invariant-loop-other : goal.invariant-loop-other
invariant-loop-other l = list_all (λ b. not (bytes_eq l.name b.name)) (attributes_of l.source (drop l.other-index l.attributes)) ≡ list_all (λ b. not (bytes_eq l.name b.name)) (attributes_of l.source l.attributes)
