use Rattle.std.proofs.Common.{sym, subst, ◌∙◌}
use Rattle.rpki_xml.specs.Lettered.{AreLettered}
use Rattle.rpki_xml.specs.DocumentNodes.{root_of}
use Rattle.rpki_xml.proofs.Listed.{next_is, next_none}
use Rattle.rpki_xml.proofs.Roots.{whole_parts, whole_some, none_alone, first_alone}
use Rattle.rpki_xml.proofs.document.Element.as_ref.Goals as goal

pub unreachable-requires : goal.unreachable-requires
unreachable-requires c = whole_some c.self.inside.document.value.source.now c.self.inside.document.value.nodes.items c.self.invariant.0 (rw (c.deref.ensures.value, c.as_ref-document.ensures) at c.in_default.ensures.cases)

pub over-children-requires-clause-flat : goal.over-children-requires-clause-flat
over-children-requires-clause-flat c =
    rw c.as_ref-document.ensures (whole_parts c.self.inside.document.value.source.now c.self.inside.document.value.nodes.items c.in-Some.field-0-0.now c.in-Some.below.now (rw (c.deref.ensures.value, c.as_ref-document.ensures) at c.in-Some.ensures.cases.0) c.self.invariant.0).0

pub over-children-requires-clause-lettered : goal.over-children-requires-clause-lettered
over-children-requires-clause-lettered c =
    let p = whole_parts c.self.inside.document.value.source.now c.self.inside.document.value.nodes.items c.in-Some.field-0-0.now c.in-Some.below.now (rw (c.deref.ensures.value, c.as_ref-document.ensures) at c.in-Some.ensures.cases.0) c.self.invariant.0 in
    rw c.as_ref-document.ensures (subst AreLettered (sym p.1) c.self.invariant.1)

pub unreachable-requires-in_default-next : goal.unreachable-requires-in_default-next
unreachable-requires-in_default-next c =
    let p = whole_parts c.self.inside.document.value.source.now c.self.inside.document.value.nodes.items c.in-Some.field-0-0.now c.in-Some.below.now (rw (c.deref.ensures.value, c.as_ref-document.ensures) at c.in-Some.ensures.cases.0) c.self.invariant.0 in
    none_alone (root_of c.self.inside.document.value.source.now c.self.inside.document.value.nodes.items) (sym (next_none c.over-children.result c.in_default-next.ensures.steps.0) ∙ (rw c.as_ref-document.ensures at c.over-children.ensures) ∙ p.1)

pub returns : goal.returns
returns c =
    let p = whole_parts c.self.inside.document.value.source.now c.self.inside.document.value.nodes.items c.in-Some.field-0-0.now c.in-Some.below.now (rw (c.deref.ensures.value, c.as_ref-document.ensures) at c.in-Some.ensures.cases.0) c.self.invariant.0 in
    first_alone c.in-Some-next.root (root_of c.self.inside.document.value.source.now c.self.inside.document.value.nodes.items) c.next.new.self (sym (next_is c.over-children.result c.in-Some-next.root c.next.new.self c.in-Some-next.ensures.steps) ∙ (rw c.as_ref-document.ensures at c.over-children.ensures) ∙ p.1) ∙ c.self.view_is
