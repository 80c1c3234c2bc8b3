use Rattle.std.proofs.Common.{refl, sym, ◌∙◌}
use Rattle.rpki_ca.proofs.Commands.{created, no_kind_to_create, no_moment_to_create}
use Rattle.rpki_ca.proofs.words.Words.create.Goals as goal

pub returns-in_default-clause-none : goal.returns-in_default-clause-none
returns-in_default-clause-none c = λ n. no_kind_to_create c.args.self.now c.in_default.ensures

pub returns-in-None-clause-none : goal.returns-in-None-clause-none
returns-in-None-clause-none c = λ n. no_moment_to_create c.args.self.now (c.in-None.ensures.none refl)

pub returns-in-Some-moment-clause-command : goal.returns-in-Some-moment-clause-command
returns-in-Some-moment-clause-command c =
    created c.args.self.now c.in-Some.kind c.in-Some-moment.when c.requires (sym c.len.ensures ∙ c.if-len-ne3.false) c.in-Some.ensures c.in-Some-moment.ensures.some
