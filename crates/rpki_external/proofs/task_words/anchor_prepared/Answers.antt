use Rattle.std.proofs.Common.{refl}
use Rattle.rpki_external.proofs.NoTasks.{no_anchor_prepared}
use Rattle.rpki_external.proofs.task_words.anchor_prepared.Goals as goal

pub returns-in_default-clause-none : goal.returns-in_default-clause-none
returns-in_default-clause-none c = λ _. no_anchor_prepared c.args.words.now c.requires.second (λ validity key p. c.in_default.ensures.none refl validity p.1)
