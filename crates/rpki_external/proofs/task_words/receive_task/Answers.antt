use Rattle.std.proofs.Common.{refl}
use Rattle.rpki_external.proofs.NoTasks.{no_receive}
use Rattle.rpki_external.proofs.task_words.receive_task.Goals as goal

pub returns-in_default-moment-clause-none : goal.returns-in_default-moment-clause-none
returns-in_default-moment-clause-none c = λ _. no_receive c.args.words.now c.requires (λ kind when last answers keys r. c.in_default-moment.ensures.none refl when r.moment)

pub returns-in_default-2-clause-none : goal.returns-in_default-2-clause-none
returns-in_default-2-clause-none c = λ _. no_receive c.args.words.now c.requires (λ kind when last answers keys r. (rw c.in_default-2.is at c.in_ok-answers.ensures.none) refl answers r.answers_are)
