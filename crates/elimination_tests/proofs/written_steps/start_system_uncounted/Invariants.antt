use Rattle.elimination_tests.proofs.written_steps.start_system_uncounted.Given as goal

abbrev pub ghosts-start_system : goal.ghosts-start_system
ghosts-start_system a = record { name = a.blank.name; parts = a.blank.parts }
