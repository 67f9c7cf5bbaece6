use Rattle.elimination_tests.proofs.shared_systems.a_system_is_published.Given as goal

abbrev pub ghosts-publishes_system : goal.ghosts-publishes_system
ghosts-publishes_system g a = record { name = a.blank.name; parts = a.blank.parts }
