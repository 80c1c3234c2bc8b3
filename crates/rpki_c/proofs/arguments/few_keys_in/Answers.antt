use Rattle.std.proofs.Common.{rules, arith, refl, length-append, ◌∷◌, []}
use Rattle.rpki_c.proofs.ManyKeys.{all_read, go_on, no_more, none_read, too_many}
use Rattle.rpki_c.proofs.arguments.few_keys_in.Goals as goal

pub loop-init : goal.loop-init
loop-init c = rw c.new-list.ensures.items (none_read c.args.octets.now c.new-cursor.result c.new-cursor.ensures, refl)

pub returns-in-None-clause-none : goal.returns-in-None-clause-none
returns-in-None-clause-none c = λ none. no_more c.args.octets.now c.loop.list.items c.loop.cursor c.loop.invariant.0 (search rules)

pub returns-then-end-clause-some : goal.returns-then-end-clause-some
returns-then-end-clause-some c =
    rw c.in_ok-push-in-Some.ensures.items (all_read c.args.octets.now c.loop.list.items c.loop.cursor c.next_key.new.cursor c.in-Some.key c.loop.invariant.0 (search rules) (search rules) (omega (arith, c.loop.invariant.1, c.loop-test.true)))

pub loop-preserved : goal.loop-preserved
loop-preserved c =
    rw c.in_ok-push-in-Some.ensures.items (go_on c.args.octets.now c.loop.list.items c.loop.cursor c.next_key.new.cursor c.in-Some.key c.loop.invariant.0 (search rules) (search rules), omega (arith, c.loop.invariant.1, length-append c.loop.list.items (c.in-Some.key ∷ [])))

pub returns-clause-none : goal.returns-clause-none
returns-clause-none c = λ none. too_many c.args.octets.now c.loop.list.items c.loop.cursor c.loop.invariant.0 (omega (arith, c.loop.invariant.1, c.loop.auto.counter-end, c.loop-test.false))
