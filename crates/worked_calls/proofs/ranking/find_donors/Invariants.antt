use Rattle.worked_calls.proofs.ranking.find_donors.Given as goal

abbrev pub ghosts-nearest_donors : goal.ghosts-nearest_donors
ghosts-nearest_donors a = record { name = a.blank.name; parts = a.blank.parts }
