use Rattle.std.proofs.Common.{drop}
use Rattle.std.specs.Prelude.{filter}
use Rattle.std.specs.Option.{option_copied}
use Rattle.rpki_xml.specs.Kept.{attributes_of}
use Rattle.rpki_xml.specs.Tables.{is_called}
use Rattle.rpki_xml.proofs.Found.{Found}
use Rattle.rpki_xml.proofs.lookup.optional_among.Given as goal

-- what was found before is what comes before in the list of those with the name
abbrev pub invariant-loop-attribute : goal.invariant-loop-attribute
invariant-loop-attribute l = Found (option_copied l.found) (filter (is_called l.local) (attributes_of l.source (drop l.attribute-index l.attributes))) (filter (is_called l.local) (attributes_of l.source l.attributes))
