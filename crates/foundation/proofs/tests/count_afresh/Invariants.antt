use Rattle.foundation.proofs.tests.count_afresh.Given as goal

abbrev pub ghosts-count_from : goal.ghosts-count_from
ghosts-count_from a = record { name = a.blank.name; parts = a.blank.parts }
