use Rattle.std.proofs.Common.{sym}
use Rattle.rpki_xml.proofs.Roots.{not_one_open, no_nodes_open, parts, not_white, not_one, root_is}
use Rattle.rpki_xml.proofs.document.finished.Goals as goal

pub returns-then-places-ne1-clause-value : goal.returns-then-places-ne1-clause-value
returns-then-places-ne1-clause-value c = not_one_open c.args.source.now c.args.nodes.items c.args.places.now c.requires c.if-places-ne1.true

pub returns-in_default-clause-value : goal.returns-in_default-clause-value
returns-in_default-clause-value c = absurd (no_nodes_open c.args.source.now c.args.nodes.items c.args.places.now c.requires c.if-places-ne1.false (rw c.deref.ensures.value at c.in_default.ensures.cases))

pub returns-then-not-is_all_white-clause-value : goal.returns-then-not-is_all_white-clause-value
returns-then-not-is_all_white-clause-value c =
    let p = parts c.args.source.now c.args.nodes.items c.args.places.now c.in-Some.document.now c.in-Some.below.now c.requires c.if-places-ne1.false (rw c.deref.ensures.value at c.in-Some.ensures.cases.0) in
    not_white c.args.source.now c.args.nodes.items c.args.places.now c.in-Some.document.now c.in-Some.below.now p (sym (rw c.text.ensures at c.if-not-is_all_white.ensures))

pub is_one-requires : goal.is_one-requires
is_one-requires c = (parts c.args.source.now c.args.nodes.items c.args.places.now c.in-Some.document.now c.in-Some.below.now c.requires c.if-places-ne1.false (rw c.deref.ensures.value at c.in-Some.ensures.cases.0)).flat_is

pub returns-then-not-is_one-clause-value : goal.returns-then-not-is_one-clause-value
returns-then-not-is_one-clause-value c =
    let p = parts c.args.source.now c.args.nodes.items c.args.places.now c.in-Some.document.now c.in-Some.below.now c.requires c.if-places-ne1.false (rw c.deref.ensures.value at c.in-Some.ensures.cases.0) in
    not_one c.args.source.now c.args.nodes.items c.args.places.now c.in-Some.document.now c.in-Some.below.now p (sym c.if-not-is_one.ensures)

pub returns-clause-value : goal.returns-clause-value
returns-clause-value c =
    let e = rw c.deref.ensures.value at c.in-Some.ensures.cases.0 in
    let p = parts c.args.source.now c.args.nodes.items c.args.places.now c.in-Some.document.now c.in-Some.below.now c.requires c.if-places-ne1.false e in
    (root_is c.args.source.now c.args.nodes.items c.args.places.now c.in-Some.document.now c.in-Some.below.now p e (sym (rw c.text.ensures at c.if-not-is_all_white.ensures)) (sym c.if-not-is_one.ensures)).0

pub returns-clause-whole : goal.returns-clause-whole
returns-clause-whole c =
    let e = rw c.deref.ensures.value at c.in-Some.ensures.cases.0 in
    let p = parts c.args.source.now c.args.nodes.items c.args.places.now c.in-Some.document.now c.in-Some.below.now c.requires c.if-places-ne1.false e in
    (root_is c.args.source.now c.args.nodes.items c.args.places.now c.in-Some.document.now c.in-Some.below.now p e (sym (rw c.text.ensures at c.if-not-is_all_white.ensures)) (sym c.if-not-is_one.ensures)).1
