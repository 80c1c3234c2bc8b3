use Rattle.std.proofs.Common.{◌≡◌, ◌<◌, ◌-◌, true, false, length, refl, arith}
use Rattle.std.proofs.lemmas.Result.{err_from_is_err_and}
use Rattle.std.specs.Str.{bytes_eq}
use Rattle.rpki_common.proofs.Truths.{same_some}
use Rattle.rpki_xml.specs.Stack.{end_element}
use Rattle.rpki_xml.specs.Kept.{name_from}
use Rattle.rpki_xml.specs.Views.{text_in}
use Rattle.rpki_xml.proofs.Held.{innermost, nothing_held, nothing_to_end, other_name, unsettled_fails, at_end, fails_at_end, is_false, is_true, element_ended}
use Rattle.rpki_xml.proofs.stack.end_element.Goals as goal

pub returns-in_default-clause-given : goal.returns-in_default-clause-given
unfolding end_element
returns-in_default-clause-given c =
    let zero : length c.args.places.now.items ≡ 0 = omega (arith, c.in_default.ensures.cases.0) in
    rw (nothing_held c.args.source.now c.args.nodes.now.items c.args.places.now.items zero) refl

pub returns-then-is_empty-clause-given : goal.returns-then-is_empty-clause-given
returns-then-is_empty-clause-given c =
    let zero : length c.pop.new.self.items ≡ 0 = grind arith in
    nothing_to_end c.args.source.now c.args.nodes.now.items c.args.places.now.items c.pop.new.self.items c.in-Some.place c.args.name.now c.in-Some.ensures.items c.requires zero

pub overflow_sub-len : goal.overflow_sub-len
overflow_sub-len c =
    let lt = (innermost c.args.source.now c.args.nodes.now.items c.args.places.now.items c.pop.new.self.items c.in-Some.place c.in-Some.ensures.items c.requires).in_range in omega (arith, lt)

pub overflow_sub-len-2 : goal.overflow_sub-len-2
overflow_sub-len-2 c =
    let lt = (innermost c.args.source.now c.args.nodes.now.items c.args.places.now.items c.pop.new.self.items c.in-Some.place c.in-Some.ensures.items c.requires).in_range in omega (arith, lt)

pub index_mut-node-requires : goal.index_mut-node-requires
index_mut-node-requires c =
    let lt = (innermost c.args.source.now c.args.nodes.now.items c.args.places.now.items c.pop.new.self.items c.in-Some.place c.in-Some.ensures.items c.requires).in_range in omega (arith, lt)

pub returns-then-ne-clause-given : goal.returns-then-ne-clause-given
returns-then-ne-clause-given c =
    let more : 0 < length c.pop.new.self.items = grind arith in
    let ne : bytes_eq (name_from c.args.source.now c.index_mut-node.result.now.name) c.args.name.now ≡ false = rw c.name_from.ensures at (is_false (bytes_eq c.name_from.result.now c.args.name.now) c.if-ne.ensures) in
    other_name c.args.source.now c.args.nodes.now.items c.args.places.now.items c.pop.new.self.items c.in-Some.place c.index_mut-node.result.now c.args.name.now c.in-Some.ensures.items c.requires more c.index_mut-node.ensures.value ne

pub returns-in_err-rest-clause-given : goal.returns-in_err-rest-clause-given
returns-in_err-rest-clause-given c =
    let p = err_from_is_err_and c.from_residual-in_err-rest.result c.from_residual-in_err-rest.ensures.1 in
    let more : 0 < length c.pop.new.self.items = grind arith in
    let count : c.in_ok-below.below ≡ length c.args.nodes.now.items - c.in-Some.place - 1 = omega (arith, same_some _ _ c.in_ok-below.ensures.value) in
    rw (p.1, p.2) (unsettled_fails c.args.source.now c.in_err-rest.field-0.0 c.args.nodes.now.items c.args.places.now.items c.pop.new.self.items c.in-Some.place c.in_ok-below.below c.index_mut-node.result.now c.args.name.now
    c.in-Some.ensures.items c.requires more c.index_mut-node.ensures.value count (fails_at_end c.in_err-rest.field-0.0 c.args.source.now c.index_mut-node.result.now c.replace-so_far.result c.in_ok-below.below c.replace-so_far.ensures.value c.in_err-rest.ensures))

pub returns-clause-given : goal.returns-clause-given
returns-clause-given c =
    let more : 0 < length c.pop.new.self.items = grind arith in
    let count : c.in_ok-below.below ≡ length c.args.nodes.now.items - c.in-Some.place - 1 = omega (arith, same_some _ _ c.in_ok-below.ensures.value) in
    let settled-is = at_end c.args.source.now c.index_mut-node.result.now c.replace-so_far.result c.in_ok-rest.rest c.in_ok-below.below c.replace-so_far.ensures.value c.in_ok-rest.ensures in
    let same : bytes_eq (name_from c.args.source.now c.index_mut-node.result.now.name) c.args.name.now ≡ true = rw c.name_from.ensures at (is_true (bytes_eq c.name_from.result.now c.args.name.now) c.if-ne.ensures) in
    (element_ended c.args.source.now c.args.nodes.now.items c.args.places.now.items c.pop.new.self.items c.in-Some.place c.in_ok-below.below c.index_mut-node.result.now
    (record c.index_mut-node.result.now { rest = c.in_ok-rest.rest; below = c.in_ok-below.below }) c.args.name.now (text_in c.args.source.now c.in_ok-rest.rest)
    c.in-Some.ensures.items c.requires more c.index_mut-node.ensures.value count same settled-is.0 settled-is.1 refl).0

pub returns-clause-kept : goal.returns-clause-kept
returns-clause-kept c =
    let more : 0 < length c.pop.new.self.items = grind arith in
    let count : c.in_ok-below.below ≡ length c.args.nodes.now.items - c.in-Some.place - 1 = omega (arith, same_some _ _ c.in_ok-below.ensures.value) in
    let settled-is = at_end c.args.source.now c.index_mut-node.result.now c.replace-so_far.result c.in_ok-rest.rest c.in_ok-below.below c.replace-so_far.ensures.value c.in_ok-rest.ensures in
    let same : bytes_eq (name_from c.args.source.now c.index_mut-node.result.now.name) c.args.name.now ≡ true = rw c.name_from.ensures at (is_true (bytes_eq c.name_from.result.now c.args.name.now) c.if-ne.ensures) in
    (element_ended c.args.source.now c.args.nodes.now.items c.args.places.now.items c.pop.new.self.items c.in-Some.place c.in_ok-below.below c.index_mut-node.result.now
    (record c.index_mut-node.result.now { rest = c.in_ok-rest.rest; below = c.in_ok-below.below }) c.args.name.now (text_in c.args.source.now c.in_ok-rest.rest)
    c.in-Some.ensures.items c.requires more c.index_mut-node.ensures.value count same settled-is.0 settled-is.1 refl).1
