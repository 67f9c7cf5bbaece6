use Rattle.panel_release.proofs.release.answer_at.Given as goal

abbrev pub ghosts-answer_for : goal.ghosts-answer_for
ghosts-answer_for a = record { name = a.blank.name; parts = a.blank.parts }
