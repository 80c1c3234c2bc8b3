use Rattle.rpki_replay.proofs.running.moment_of.Goals as goal

pub returns-then-len-eq1-clause-none : goal.returns-then-len-eq1-clause-none
returns-then-len-eq1-clause-none c = λ n when are. c.moment.ensures.none n when are.moment
