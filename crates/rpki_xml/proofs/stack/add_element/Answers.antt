use Rattle.std.proofs.Common.{◌<◌, ◌≡◌, length, refl, arith}
use Rattle.rpki_xml.specs.Stack.{add_element}
use Rattle.rpki_xml.proofs.Held.{element_added_in, nothing_held}
use Rattle.rpki_xml.proofs.stack.add_element.Goals as goal

pub returns-then-is_empty-clause-given : goal.returns-then-is_empty-clause-given
unfolding add_element
returns-then-is_empty-clause-given c = let zero : length c.args.places.now ≡ 0 = grind arith in rw (nothing_held c.args.source.now c.args.nodes.now.items c.args.places.now zero) refl

pub returns-clause-given : goal.returns-clause-given
returns-clause-given c =
    let more : 0 < length c.args.places.now = grind arith in
    rw c.in_ok-push.ensures.items (element_added_in c.args.source.now c.args.nodes.now.items c.args.places.now c.args.node more c.requires.held c.requires.below).0

pub returns-clause-kept : goal.returns-clause-kept
returns-clause-kept c =
    let more : 0 < length c.args.places.now = grind arith in
    rw c.in_ok-push.ensures.items (element_added_in c.args.source.now c.args.nodes.now.items c.args.places.now c.args.node more c.requires.held c.requires.below).1
