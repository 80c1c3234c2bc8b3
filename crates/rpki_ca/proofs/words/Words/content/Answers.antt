use Rattle.std.proofs.Common.{sym, ◌∙◌}
use Rattle.rpki_ca.proofs.Commands.{one_word}
use Rattle.rpki_ca.proofs.words.Words.content.Goals as goal

pub returns-then-len-eq1-clause-command : goal.returns-then-len-eq1-clause-command
returns-then-len-eq1-clause-command c = one_word c.args.self.now c.requires (sym c.len.ensures ∙ c.if-len-eq1.true)
