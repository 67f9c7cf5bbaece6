use Rattle.line_calls.proofs.systems.system_told.Given as goal

abbrev pub ghosts-system_of : goal.ghosts-system_of
ghosts-system_of a = record { name = a.blank.name; parts = a.blank.parts }
