use Rattle.rpki_ca.specs.Command.{setup_kind_of}
use Rattle.rpki_ca.proofs.Commands.{at_word, at_none, none_within}
use Rattle.rpki_ca.proofs.words.Words.setup_kind.Goals as goal

pub returns-in-Some : goal.returns-in-Some
returns-in-Some c = at_word setup_kind_of c.args.self.now c.args.index c.in-Some.word.now _ c.in-Some.ensures.value c.setup_kind_of.ensures

pub returns-in-None : goal.returns-in-None
returns-in-None c = at_none setup_kind_of c.args.self.now c.args.index (none_within c.args.self.now c.args.index c.in-None.ensures.some.1)
