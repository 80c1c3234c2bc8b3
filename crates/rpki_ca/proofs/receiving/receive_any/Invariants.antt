use Rattle.rpki_ca.proofs.receiving.receive_any.Given as goal

abbrev pub ghosts-receive_any_within : goal.ghosts-receive_any_within
ghosts-receive_any_within g a = record { name = a.blank.name; parts = a.blank.parts }
