use Rattle.test_external.proofs.calls.verified_given.Given as goal

-- the questions and the answers that it is given
abbrev pub ghosts-verified : goal.ghosts-verified
ghosts-verified a = record { questions = a.questions.now; answers = a.answers.now }
