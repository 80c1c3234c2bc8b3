use Rattle.rpki_der.proofs.oid.take_oid.Given as goal

abbrev pub ghosts-take_oid_within : goal.ghosts-take_oid_within
ghosts-take_oid_within a = record { name = a.blank.name; parts = a.blank.parts }
