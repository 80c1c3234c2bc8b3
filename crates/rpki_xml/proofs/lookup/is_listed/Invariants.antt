use Rattle.std.proofs.Common.{◌≡◌, drop}
use Rattle.rpki_xml.specs.Kept.{attribute_of}
use Rattle.rpki_xml.specs.Tables.{is_listed}
use Rattle.rpki_xml.specs.Texts.{texts}
use Rattle.rpki_xml.proofs.lookup.is_listed.Given as goal

abbrev pub invariant-loop-local : goal.invariant-loop-local
invariant-loop-local l = is_listed (texts (drop l.local-index l.locals)) (attribute_of l.source l.attribute) ≡ is_listed (texts l.locals) (attribute_of l.source l.attribute)
