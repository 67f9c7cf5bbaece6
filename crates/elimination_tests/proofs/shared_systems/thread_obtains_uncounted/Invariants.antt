use Rattle.elimination_tests.proofs.shared_systems.thread_obtains_uncounted.Given as goal

abbrev pub ghosts-thread_obtains : goal.ghosts-thread_obtains
ghosts-thread_obtains g a = record { name = a.blank.name; parts = a.blank.parts }
