use Rattle.test_layers.proofs.der.going_through_an_indefinite_value_of_one_ticks_three_times.Given as goal

abbrev pub ghosts-goes_through : goal.ghosts-goes_through
ghosts-goes_through g a = record { name = a.blank.name; parts = a.blank.parts }
