use Rattle.std.proofs.Common.{◌<◌, ◌≡◌, length, refl, arith}
use Rattle.rpki_common.proofs.Truths.{same_some}
use Rattle.rpki_xml.specs.Stack.{begin_element}
use Rattle.rpki_xml.proofs.Held.{element_begun_in, nothing_held}
use Rattle.rpki_xml.proofs.stack.begin_element.Goals as goal

pub returns-then-is_empty-clause-given : goal.returns-then-is_empty-clause-given
unfolding begin_element
returns-then-is_empty-clause-given c = let zero : length c.args.places.now.items ≡ 0 = grind arith in rw (nothing_held c.args.source.now c.args.nodes.now.items c.args.places.now.items zero) refl

pub returns-clause-given : goal.returns-clause-given
returns-clause-given c =
    let more : 0 < length c.args.places.now.items = grind arith in
    let count : c.in_ok-place.place ≡ length c.args.nodes.now.items = omega (arith, same_some _ _ c.in_ok-place.ensures.value) in
    rw (c.in_ok-push-2.ensures.items, c.in_ok-push.ensures.items, c.in_ok-make_room.ensures.kept) (element_begun_in c.args.source.now c.args.nodes.now.items c.args.places.now.items c.in_ok-place.place c.args.node more c.requires.held c.requires.below count).0

pub returns-clause-kept : goal.returns-clause-kept
returns-clause-kept c =
    let more : 0 < length c.args.places.now.items = grind arith in
    let count : c.in_ok-place.place ≡ length c.args.nodes.now.items = omega (arith, same_some _ _ c.in_ok-place.ensures.value) in
    rw (c.in_ok-push-2.ensures.items, c.in_ok-push.ensures.items, c.in_ok-make_room.ensures.kept) (element_begun_in c.args.source.now c.args.nodes.now.items c.args.places.now.items c.in_ok-place.place c.args.node more c.requires.held c.requires.below count).1
