use Rattle.std.proofs.Common.{◌≡◌, drop}
use Rattle.rpki_common.specs.Items as items
use Rattle.rpki_xml.specs.Kept.{attributes_of}
use Rattle.rpki_xml.specs.Tables.{is_listed}
use Rattle.rpki_xml.specs.Texts.{texts}
use Rattle.rpki_xml.proofs.lookup.only_among.Given as goal

abbrev pub invariant-loop-attribute : goal.invariant-loop-attribute
invariant-loop-attribute l = items.only (is_listed (texts l.locals)) (drop l.attribute-index (attributes_of l.source l.attributes)) ≡ items.only (is_listed (texts l.locals)) (attributes_of l.source l.attributes)
