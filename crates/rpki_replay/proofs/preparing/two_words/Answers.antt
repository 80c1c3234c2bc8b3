use Rattle.rpki_replay.proofs.Sending.{three_words}
use Rattle.rpki_replay.proofs.preparing.two_words.Goals as goal

pub returns-in-Some-split_word-clause-none : goal.returns-in-Some-split_word-clause-none
returns-in-Some-split_word-clause-none c = λ n. three_words c.args.line.now c.in-Some.first.now c.in-Some.second.now c.in-Some-split_word.field-0.0.now c.in-Some-split_word.field-0.1.now c.in-Some.ensures.some c.in-Some-split_word.ensures.some
