use Rattle.test_stored.proofs.walk.WalksCases.holds.Given as goal

abbrev pub ghosts-holds_within : goal.ghosts-holds_within
ghosts-holds_within g a = record { name = a.blank.name; parts = a.blank.parts }
