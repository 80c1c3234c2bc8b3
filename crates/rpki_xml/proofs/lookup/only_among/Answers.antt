use Rattle.std.proofs.Common.{sym, arith}
use Rattle.rpki_xml.specs.Kept.{attribute_of, attributes_of}
use Rattle.rpki_xml.proofs.Places.{attribute_at_is, length-attributes}
use Rattle.rpki_common.specs.Items as items
use Rattle.rpki_xml.specs.Tables.{is_listed}
use Rattle.rpki_xml.specs.Texts.{texts}
use Rattle.rpki_xml.proofs.Found.{only_refused, only_more, only_done}
use Rattle.rpki_xml.proofs.lookup.only_among.Goals as goal

pub returns-then-not-is_listed : goal.returns-then-not-is_listed
returns-then-not-is_listed c =
    only_refused (is_listed (texts c.args.locals.now)) (attributes_of c.args.source.now c.args.attributes.now) c.loop-attribute.attribute-index (attribute_of c.args.source.now c.attribute-item.result) (items.only (is_listed (texts c.args.locals.now)) (attributes_of c.args.source.now c.args.attributes.now)) (omega (arith, length-attributes c.args.source.now c.args.attributes.now, c.loop-attribute-test.true)) (attribute_at_is c.args.source.now c.args.attributes.now c.loop-attribute.attribute-index c.attribute-item.result c.loop-attribute-test.true c.attribute-item.is) (sym c.if-not-is_listed.ensures) c.loop-attribute.invariant

pub loop-attribute-preserved : goal.loop-attribute-preserved
loop-attribute-preserved c =
    only_more (is_listed (texts c.args.locals.now)) (attributes_of c.args.source.now c.args.attributes.now) c.loop-attribute.attribute-index (attribute_of c.args.source.now c.attribute-item.result) (items.only (is_listed (texts c.args.locals.now)) (attributes_of c.args.source.now c.args.attributes.now)) (omega (arith, length-attributes c.args.source.now c.args.attributes.now, c.loop-attribute-test.true)) (attribute_at_is c.args.source.now c.args.attributes.now c.loop-attribute.attribute-index c.attribute-item.result c.loop-attribute-test.true c.attribute-item.is) (sym c.if-not-is_listed.ensures) c.loop-attribute.invariant

pub returns : goal.returns
returns c = only_done (is_listed (texts c.args.locals.now)) (attributes_of c.args.source.now c.args.attributes.now) c.loop-attribute.attribute-index (items.only (is_listed (texts c.args.locals.now)) (attributes_of c.args.source.now c.args.attributes.now)) (omega (arith, length-attributes c.args.source.now c.args.attributes.now, c.loop-attribute-test.false)) c.loop-attribute.invariant
