use Rattle.elimination_tests.proofs.shared_systems.systems_are_kept_for_other_readers.Given as goal

abbrev pub ghosts-keeps_systems : goal.ghosts-keeps_systems
ghosts-keeps_systems g a = record { name = a.blank.name; parts = a.blank.parts }
