use Rattle.std.proofs.Common.{sym, ◌∙◌}
use Rattle.rpki_ca.proofs.Commands.{one_more, no_key_here, all_spelled}
use Rattle.rpki_ca.proofs.words.Words.keys_from.Goals as goal

pub returns-in-None-clause-none : goal.returns-in-None-clause-none
returns-in-None-clause-none c = λ n.
    no_key_here c.args.self.now c.args.index c.loop-place.place c.loop-place.keys.items (rw c.len-place-end.ensures at c.loop-place-test.true) (sym c.in-None.is ∙ c.in_ok-key.ensures) c.loop-place.invariant

pub loop-place-preserved : goal.loop-place-preserved
loop-place-preserved c =
    rw c.in_ok-push-in-Some.ensures.items
    (one_more c.args.self.now c.args.index c.loop-place.place c.loop-place.keys.items c.in-Some.key (rw c.len-place-end.ensures at c.loop-place-test.true) (sym c.in-Some.is ∙ c.in_ok-key.ensures) c.loop-place.invariant)

pub returns-clause-some : goal.returns-clause-some
returns-clause-some c = all_spelled c.args.self.now c.args.index c.loop-place.place c.loop-place.keys.items (rw c.len-place-end.ensures at c.loop-place-test.false) c.loop-place.invariant
