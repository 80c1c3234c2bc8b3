use Rattle.std.proofs.Common.{sym, arith}
use Rattle.rpki_xml.specs.Kept.{attribute_of, attributes_of}
use Rattle.rpki_xml.specs.Lexing.{no_attribute, attribute_at}
use Rattle.std.proofs.lemmas.Result.{err_from_is_err_and}
use Rattle.rpki_xml.proofs.Backs.{behind_attribute}
use Rattle.rpki_xml.proofs.Places.{attributes-push}
use Rattle.rpki_xml.proofs.Until.{until_starts, until_more, until_fails, until_done}
use Rattle.rpki_xml.proofs.lexing.attributes_at.Goals as goal

pub attributes-init : goal.attributes-init
attributes-init c = record {
  read = rw c.in_ok-attributes.ensures.items (until_starts no_attribute attribute_at c.args.b.now);
  shorter = omega arith;
  back = c.requires;
}

pub attributes-preserved : goal.attributes-preserved
attributes-preserved c = record {
  read = rw (c.in_ok-push.ensures.items, attributes-push c.args.source.now c.attributes.attributes.items c.in_ok-attribute.attribute) (until_more no_attribute attribute_at c.args.b.now (attributes_of c.args.source.now c.attributes.attributes.items) c.attributes.rest.now (attribute_of c.args.source.now c.in_ok-attribute.attribute) c.in_ok-attribute.after.now c.attributes.invariant.read (sym c.attributes-test.ensures) c.in_ok-attribute.ensures.value c.in_ok-attribute.ensures.shorter);
  shorter = omega (arith, c.in_ok-attribute.ensures.shorter, c.attributes.invariant.shorter);
  back = behind_attribute c.args.source.now c.attributes.rest.now c.in_ok-attribute.after.now (attribute_of c.args.source.now c.in_ok-attribute.attribute) c.attributes.invariant.back (sym c.attributes-test.ensures) c.in_ok-attribute.ensures.value;
}

pub returns-in_err-attribute-clause-value : goal.returns-in_err-attribute-clause-value
returns-in_err-attribute-clause-value c =
    let p = err_from_is_err_and c.from_residual-in_err-attribute.result c.from_residual-in_err-attribute.ensures.1 in
    rw (p.1, p.2) (until_fails no_attribute attribute_at c.args.b.now (attributes_of c.args.source.now c.attributes.attributes.items) c.attributes.rest.now c.in_err-attribute.field-0.0 c.attributes.invariant.read (sym c.attributes-test.ensures) c.in_err-attribute.ensures.value)

pub returns-clause-value : goal.returns-clause-value
returns-clause-value c = until_done no_attribute attribute_at c.args.b.now (attributes_of c.args.source.now c.attributes.attributes.items) c.attributes.rest.now c.attributes.invariant.read (sym c.attributes-test.ensures)
