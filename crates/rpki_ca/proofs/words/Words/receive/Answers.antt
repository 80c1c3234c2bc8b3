use Rattle.std.proofs.Common.{refl}
use Rattle.rpki_ca.proofs.Commands.{received, no_kind, no_moment}
use Rattle.rpki_ca.proofs.words.Words.receive.Goals as goal

pub returns-in_default-clause-none : goal.returns-in_default-clause-none
returns-in_default-clause-none c = λ n. no_kind c.args.self.now c.in_default.ensures

pub returns-in_default-moment-clause-none : goal.returns-in_default-moment-clause-none
returns-in_default-moment-clause-none c = λ n. no_moment c.args.self.now (c.in_default-moment.ensures.none refl)

pub returns-in-Some-2-clause-command : goal.returns-in-Some-2-clause-command
returns-in-Some-2-clause-command c =
    rw c.from_vec.ensures
    (received c.args.self.now c.in-Some.kind c.in-Some-moment.when c.in-Some-2.keys.items c.requires (c.has_few_keys.ensures.0 c.if-not-has_few_keys.false) c.in-Some.ensures
    c.in-Some-moment.ensures.some (rw c.in-Some-2.is at c.in_ok-keys.ensures.some))
