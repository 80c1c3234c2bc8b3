use Rattle.rpki_external.proofs.verifying.validate_given.Given as goal

-- the questions and the answers that it is given
abbrev pub ghosts-validate_by : goal.ghosts-validate_by
ghosts-validate_by a = record { questions = a.questions.now; answers = a.answers.now }
