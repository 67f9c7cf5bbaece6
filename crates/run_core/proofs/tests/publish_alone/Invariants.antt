use Rattle.run_core.proofs.tests.publish_alone.Given as goal

abbrev pub ghosts-publish : goal.ghosts-publish
ghosts-publish a = record { name = a.blank.name; parts = a.blank.parts }
