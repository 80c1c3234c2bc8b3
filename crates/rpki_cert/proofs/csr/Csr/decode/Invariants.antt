use Rattle.rpki_cert.proofs.csr.Csr.decode.Given as goal

abbrev pub ghosts-decode_within : goal.ghosts-decode_within
ghosts-decode_within g a = record { name = a.blank.name; parts = a.blank.parts }
