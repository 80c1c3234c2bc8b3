use Rattle.std.proofs.Common.{refl}
use Rattle.rpki_external.proofs.NoTasks.{no_message_finished}
use Rattle.rpki_external.proofs.task_words.message_finished.Goals as goal

pub returns-in-None-clause-none : goal.returns-in-None-clause-none
returns-in-None-clause-none c = λ _. no_message_finished c.args.words.now c.requires.second (λ kind plan signatures p. (rw c.in-None.is at c.in_ok-signatures.ensures.none) refl signatures p.3)
