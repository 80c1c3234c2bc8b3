use Rattle.std.proofs.Common.{refl, sym, ◌∙◌}
use Rattle.rpki_ca.proofs.Commands.{set_up, no_kind_to_set_up, no_moment_to_set_up}
use Rattle.rpki_ca.proofs.words.Words.setup.Goals as goal

pub returns-in_default-clause-none : goal.returns-in_default-clause-none
returns-in_default-clause-none c = λ n. no_kind_to_set_up c.args.self.now c.in_default.ensures

pub returns-in-None-clause-none : goal.returns-in-None-clause-none
returns-in-None-clause-none c = λ n. no_moment_to_set_up c.args.self.now (c.in-None.ensures.none refl)

pub returns-in-Some-moment-clause-command : goal.returns-in-Some-moment-clause-command
returns-in-Some-moment-clause-command c =
    set_up c.args.self.now c.in-Some.kind c.in-Some-moment.when c.requires (sym c.len.ensures ∙ c.if-len-ne3.false) c.in-Some.ensures c.in-Some-moment.ensures.some
