use Rattle.std.proofs.Common.{◌≡◌, drop}
use Rattle.rpki_xml.specs.Content.{declared}
use Rattle.rpki_xml.specs.Kept.{attributes_of}
use Rattle.rpki_xml.specs.Name.{prefix_of}
use Rattle.rpki_xml.proofs.tag.declared.Given as goal

abbrev pub invariant-loop-attribute : goal.invariant-loop-attribute
invariant-loop-attribute l = declared (prefix_of l.name) (attributes_of l.source (drop l.attribute-index l.attributes)) ≡ declared (prefix_of l.name) (attributes_of l.source l.attributes)
