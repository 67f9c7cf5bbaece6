use Rattle.elimination_bench.proofs.elimination.system_of.Given as goal

abbrev pub ghosts-counted_system : goal.ghosts-counted_system
ghosts-counted_system a = record { name = a.blank.name; parts = a.blank.parts }
