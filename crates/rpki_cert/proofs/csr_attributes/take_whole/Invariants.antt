use Rattle.rpki_cert.proofs.csr_attributes.take_whole.Given as goal

abbrev pub ghosts-take_within : goal.ghosts-take_within
ghosts-take_within a = record { name = a.blank.name; parts = a.blank.parts }
