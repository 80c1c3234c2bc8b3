use Rattle.std.proofs.Common.{refl}
use Rattle.rpki_external.proofs.NoTasks.{no_explain}
use Rattle.rpki_external.proofs.task_words.explain_task.Goals as goal

pub returns-in_default-clause-none : goal.returns-in_default-clause-none
returns-in_default-clause-none c = λ _. no_explain c.args.words.now c.requires (λ when key answers p. c.in_default.ensures.none refl when p.1)

pub returns-in_default-2-clause-none : goal.returns-in_default-2-clause-none
returns-in_default-2-clause-none c = λ _. no_explain c.args.words.now c.requires (λ when key answers p. (rw c.in_default-2.is at c.in_ok-answers.ensures.none) refl answers p.2)
