use Rattle.record_ends.proofs.row_ends.end_of.Given as goal

abbrev pub ghosts-with_values : goal.ghosts-with_values
ghosts-with_values g a = record { name = a.blank.name; parts = a.blank.parts }
