use Rattle.std.proofs.Common.{ap, ◌∙◌}
use Rattle.std.proofs.lemmas.Result.{IfOk-weaker}
use Rattle.rpki_ca.specs.Words.{key_of_word}
use Rattle.rpki_ca.proofs.Commands.{at_word, at_none, none_within}
use Rattle.rpki_ca.proofs.words.Words.key.Goals as goal

pub returns-in-Some : goal.returns-in-Some
returns-in-Some c = IfOk-weaker c.spelled_key.result _ _ (λ key is. at_word key_of_word c.args.self.now c.args.index c.in-Some.word.now key c.in-Some.ensures.value (is ∙ ap key_of_word c.as_bytes.ensures.value)) c.spelled_key.ensures

pub returns-in-None : goal.returns-in-None
returns-in-None c = at_none key_of_word c.args.self.now c.args.index (none_within c.args.self.now c.args.index c.in-None.ensures.some.1)
