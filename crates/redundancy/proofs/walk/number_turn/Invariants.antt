use Rattle.redundancy.proofs.walk.number_turn.Given as goal

abbrev pub ghosts-next_lines : goal.ghosts-next_lines
ghosts-next_lines a = record { name = a.blank.name; parts = a.blank.parts }
