use Rattle.rpki_ca.specs.Command.{kind_of}
use Rattle.rpki_ca.proofs.Commands.{at_word, at_none, none_within}
use Rattle.rpki_ca.proofs.words.Words.kind.Goals as goal

pub returns-in-Some : goal.returns-in-Some
returns-in-Some c = at_word kind_of c.args.self.now c.args.index c.in-Some.word.now _ c.in-Some.ensures.value c.kind_of.ensures

pub returns-in-None : goal.returns-in-None
returns-in-None c = at_none kind_of c.args.self.now c.args.index (none_within c.args.self.now c.args.index c.in-None.ensures.some.1)
