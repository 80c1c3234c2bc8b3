use Rattle.test_layers.proofs.der.an_indefinite_value_of_one_ticks_three_times.Given as goal

abbrev pub ghosts-takes_marked : goal.ghosts-takes_marked
ghosts-takes_marked g a = record { name = a.blank.name; parts = a.blank.parts }
