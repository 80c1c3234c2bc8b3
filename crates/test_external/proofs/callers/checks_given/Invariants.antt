use Rattle.test_external.proofs.callers.checks_given.Given as goal

-- the questions and the answers that it is given
abbrev pub ghosts-checks_by : goal.ghosts-checks_by
ghosts-checks_by a = record { questions = a.questions.now; answers = a.answers.now }
