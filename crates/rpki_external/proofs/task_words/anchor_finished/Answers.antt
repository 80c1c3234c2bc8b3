use Rattle.std.proofs.Common.{refl}
use Rattle.rpki_external.proofs.NoTasks.{no_anchor_finished}
use Rattle.rpki_external.proofs.task_words.anchor_finished.Goals as goal

pub returns-in_default-clause-none : goal.returns-in_default-clause-none
returns-in_default-clause-none c = λ _. no_anchor_finished c.args.words.now c.requires.second (λ validity key signature p. c.in_default.ensures.none refl validity p.1)

pub returns-in-None-clause-none : goal.returns-in-None-clause-none
returns-in-None-clause-none c = λ _. no_anchor_finished c.args.words.now c.requires.second (λ validity key signature p. (rw c.in-None.is at c.in_ok-signature.ensures.none) refl signature p.3)
