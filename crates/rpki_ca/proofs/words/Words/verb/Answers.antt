use Rattle.rpki_ca.specs.Command.{verb_of}
use Rattle.rpki_ca.proofs.Commands.{at_word, at_none, none_within}
use Rattle.rpki_ca.proofs.words.Words.verb.Goals as goal

pub returns-in-Some : goal.returns-in-Some
returns-in-Some c = at_word verb_of c.args.self.now 0 c.in-Some.word.now _ c.in-Some.ensures.value c.verb_of.ensures

pub returns-in-None : goal.returns-in-None
returns-in-None c = at_none verb_of c.args.self.now 0 (none_within c.args.self.now 0 c.in-None.ensures.some.1)
