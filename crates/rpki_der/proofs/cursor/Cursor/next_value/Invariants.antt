use Rattle.rpki_der.proofs.cursor.Cursor.next_value.Given as goal

abbrev pub ghosts-next_value_within : goal.ghosts-next_value_within
ghosts-next_value_within a = record { name = a.blank.name; parts = a.blank.parts }
