use Rattle.rpki_external.proofs.receiving.receive_given.Given as goal

-- the questions and the answers that it is given
abbrev pub ghosts-receive_by : goal.ghosts-receive_by
ghosts-receive_by a = record { questions = a.questions.now; answers = a.answers.now }
