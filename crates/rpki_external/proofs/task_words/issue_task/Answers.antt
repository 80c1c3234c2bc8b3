use Rattle.std.proofs.Common.{refl}
use Rattle.rpki_external.proofs.NoTasks.{no_issue}
use Rattle.rpki_external.proofs.task_words.issue_task.Goals as goal

pub returns-in-None-clause-none : goal.returns-in-None-clause-none
returns-in-None-clause-none c = λ _. no_issue c.args.words.now c.requires (λ answers count are. (rw c.in-None.is at c.in_ok-answers.ensures.none) refl answers are)
