use Rattle.rpki_sigmsg.proofs.revoked.CrlEntry.take_from.Given as goal

abbrev pub ghosts-take_from_within : goal.ghosts-take_from_within
ghosts-take_from_within a = record { name = a.blank.name; parts = a.blank.parts }
