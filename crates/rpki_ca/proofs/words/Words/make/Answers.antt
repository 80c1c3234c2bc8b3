use Rattle.std.proofs.Common.{refl, sym, ◌∙◌}
use Rattle.rpki_ca.proofs.Commands.{made, no_count_to_make, no_seed_to_make}
use Rattle.rpki_ca.proofs.words.Words.make.Goals as goal

pub returns-in_default-clause-none : goal.returns-in_default-clause-none
returns-in_default-clause-none c = λ n. no_count_to_make c.args.self.now (c.in_default.ensures.none refl)

pub returns-in-None-clause-none : goal.returns-in-None-clause-none
returns-in-None-clause-none c = λ n. no_seed_to_make c.args.self.now (c.in-None.ensures.none refl)

pub returns-in-Some-number-clause-command : goal.returns-in-Some-number-clause-command
returns-in-Some-number-clause-command c =
    made c.args.self.now c.in-Some.count c.in-Some-number.seed c.requires (sym c.len.ensures ∙ c.if-len-ne3.false) c.in-Some.ensures.some c.in-Some-number.ensures.some
