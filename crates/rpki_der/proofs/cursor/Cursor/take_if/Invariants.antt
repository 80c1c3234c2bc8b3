use Rattle.rpki_der.proofs.cursor.Cursor.take_if.Given as goal

abbrev pub ghosts-take_if_within : goal.ghosts-take_if_within
ghosts-take_if_within a = record { name = a.blank.name; parts = a.blank.parts }
