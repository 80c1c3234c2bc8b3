use Rattle.std.proofs.Common.{refl}
use Rattle.rpki_external.proofs.NoTasks.{no_setup}
use Rattle.rpki_external.proofs.task_words.setup_task.Goals as goal

pub returns-in_default-moment-clause-none : goal.returns-in_default-moment-clause-none
returns-in_default-moment-clause-none c = λ _. no_setup c.args.words.now c.requires (λ kind when answers p. c.in_default-moment.ensures.none refl when p.2)

pub returns-in-None-clause-none : goal.returns-in-None-clause-none
returns-in-None-clause-none c = λ _. no_setup c.args.words.now c.requires (λ kind when answers p. (rw c.in-None.is at c.in_ok-answers.ensures.none) refl answers p.3)
