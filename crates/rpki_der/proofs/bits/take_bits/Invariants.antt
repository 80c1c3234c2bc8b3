use Rattle.rpki_der.proofs.bits.take_bits.Given as goal

abbrev pub ghosts-take_bits_within : goal.ghosts-take_bits_within
ghosts-take_bits_within a = record { name = a.blank.name; parts = a.blank.parts }
