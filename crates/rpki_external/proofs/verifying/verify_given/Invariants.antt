use Rattle.rpki_external.proofs.verifying.verify_given.Given as goal

-- the questions and the answers that it is given
abbrev pub ghosts-verify_by : goal.ghosts-verify_by
ghosts-verify_by a = record { questions = a.questions.now; answers = a.answers.now }
