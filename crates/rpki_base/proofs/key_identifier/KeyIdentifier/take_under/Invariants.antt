use Rattle.rpki_base.proofs.key_identifier.KeyIdentifier.take_under.Given as goal

abbrev pub ghosts-take_under_within : goal.ghosts-take_under_within
ghosts-take_under_within a = record { name = a.blank.name; parts = a.blank.parts }
