use Rattle.std.proofs.Common.{◌≤◌, length}
use Rattle.rpki_xml.specs.Kept.{HasBack, attributes_of}
use Rattle.rpki_xml.specs.Lexing.{no_attribute, attribute_at}
use Rattle.rpki_xml.proofs.Until.{Until}
use Rattle.rpki_xml.proofs.lexing.attributes_at.Given as goal

abbrev pub invariant-attributes : goal.invariant-attributes
invariant-attributes l = record {
  read : Until no_attribute attribute_at l.b (attributes_of l.source l.attributes.items) l.rest;
  shorter : length l.rest ≤ length l.b;
  back : HasBack l.source l.rest;
}

abbrev pub decreases-attributes : goal.decreases-attributes
decreases-attributes l = length l.rest
