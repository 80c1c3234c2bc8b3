use Rattle.test_external.proofs.callers.admit_given.Given as goal

-- the questions and the answers that it is given
abbrev pub ghosts-admit_by : goal.ghosts-admit_by
ghosts-admit_by a = record { questions = a.questions.now; answers = a.answers.now }
