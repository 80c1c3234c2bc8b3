use Rattle.std.proofs.Common.{ap, ◌∙◌, Some}
use Rattle.rpki_xml.specs.Kept.{attribute_of, attributes_of}
use Rattle.rpki_xml.proofs.Places.{attributes-push, length-attributes}
use Rattle.rpki_xml.proofs.NameSets.{starts, repeated, one_more, all_seen}
use Rattle.rpki_xml.proofs.distinct.is_distinct_by_set.Goals as goal

pub loop-last-init : goal.loop-last-init
loop-last-init c = starts c.new-names.result (attributes_of c.args.source.now c.args.attributes.now) c.new-names.ensures.empty

pub returns-then-not-branch : goal.returns-then-not-branch
returns-then-not-branch c = ap Some (repeated c.loop-last.names (attributes_of c.args.source.now c.args.attributes.now) (attributes_of c.args.source.now c.loop-last.left.now) (attributes_of c.args.source.now c.in-Some.more.now) (attribute_of c.args.source.now c.in-Some.last.now) c.name_from.result c.in_ok-insert.field-0 c.loop-last.invariant (ap (attributes_of c.args.source.now) c.in-Some.ensures.cases.0 ∙ attributes-push c.args.source.now c.in-Some.more.now c.in-Some.last.now) c.name_from.ensures c.in_ok-insert.ensures.added c.if-not-branch.true)

pub loop-last-preserved : goal.loop-last-preserved
loop-last-preserved c =
    one_more c.loop-last.names c.insert.new.self (attributes_of c.args.source.now c.args.attributes.now) (attributes_of c.args.source.now c.loop-last.left.now) (attributes_of c.args.source.now c.in-Some.more.now) (attribute_of c.args.source.now c.in-Some.last.now) c.name_from.result c.in_ok-insert.field-0 c.loop-last.invariant (ap (attributes_of c.args.source.now) c.in-Some.ensures.cases.0 ∙ attributes-push c.args.source.now c.in-Some.more.now c.in-Some.last.now) c.name_from.ensures c.in_ok-insert.ensures.added c.if-not-branch.false c.in_ok-insert.ensures.updates.0

pub returns : goal.returns
returns c = ap Some (all_seen c.loop-last.names (attributes_of c.args.source.now c.args.attributes.now) (attributes_of c.args.source.now c.loop-last.left.now) c.loop-last.invariant (length-attributes c.args.source.now c.loop-last.left.now ∙ c.in_default.ensures.cases))
