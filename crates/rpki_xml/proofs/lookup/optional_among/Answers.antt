use Rattle.std.proofs.Common.{ℕ, List, Bool, Option, drop, sym, subst, arith}
use Rattle.rpki_xml.specs.declared.kept.Named.{Named}
use Rattle.rpki_xml.specs.Element.{Attribute}
use Rattle.rpki_xml.specs.Kept.{attribute_of, attributes_of}
use Rattle.rpki_xml.proofs.Places.{attribute_at_is, attributes-drop, length-attributes}
use Rattle.std.specs.Option.{option_copied}
use Rattle.std.specs.Prelude.{filter}
use Rattle.rpki_xml.specs.Tables.{is_called}
use Rattle.rpki_xml.proofs.Found.{Found, found_twice, found_done}
use Rattle.rpki_xml.proofs.lookup.optional_among.Goals as goal

dropped : (source : List ℕ) (list : List Named) (i : ℕ) (test : Attribute → Bool) (found : Option (List ℕ)) (total : List Attribute) → Found found (filter test (attributes_of source (drop i list))) total → Found found (filter test (drop i (attributes_of source list))) total
dropped source list i test found total h = subst (λ (l : List Attribute). Found found (filter test l) total) (sym (attributes-drop source list i)) h

pub returns-then-is_some : goal.returns-then-is_some
returns-then-is_some c =
    found_twice (is_called c.args.local.now) c.loop-attribute.found (attributes_of c.args.source.now c.args.attributes.now) c.loop-attribute.attribute-index (attribute_of c.args.source.now c.attribute-item.result) (filter (is_called c.args.local.now) (attributes_of c.args.source.now c.args.attributes.now)) (omega (arith, length-attributes c.args.source.now c.args.attributes.now, c.loop-attribute-test.true)) (attribute_at_is c.args.source.now c.args.attributes.now c.loop-attribute.attribute-index c.attribute-item.result c.loop-attribute-test.true c.attribute-item.is) (sym c.if-is_some.ensures) (sym c.if-is_called.ensures) (dropped c.args.source.now c.args.attributes.now c.loop-attribute.attribute-index (is_called c.args.local.now) (option_copied c.loop-attribute.found) (filter (is_called c.args.local.now) (attributes_of c.args.source.now c.args.attributes.now)) c.loop-attribute.invariant)

pub returns : goal.returns
returns c = found_done (is_called c.args.local.now) (option_copied c.loop-attribute.found) (attributes_of c.args.source.now c.args.attributes.now) c.loop-attribute.attribute-index (filter (is_called c.args.local.now) (attributes_of c.args.source.now c.args.attributes.now)) (omega (arith, length-attributes c.args.source.now c.args.attributes.now, c.loop-attribute-test.false)) (dropped c.args.source.now c.args.attributes.now c.loop-attribute.attribute-index (is_called c.args.local.now) (option_copied c.loop-attribute.found) (filter (is_called c.args.local.now) (attributes_of c.args.source.now c.args.attributes.now)) c.loop-attribute.invariant)
