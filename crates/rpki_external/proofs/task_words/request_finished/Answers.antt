use Rattle.std.proofs.Common.{refl}
use Rattle.rpki_external.proofs.NoTasks.{no_request_finished}
use Rattle.rpki_external.proofs.task_words.request_finished.Goals as goal

pub returns-in-None-clause-none : goal.returns-in-None-clause-none
returns-in-None-clause-none c = λ _. no_request_finished c.args.words.now c.requires.second (λ plan signature p. (rw c.in-None.is at c.in_ok-signature.ensures.none) refl signature p.2)
