use Rattle.std.specs.Prelude.{ℕ, suc, List, [], ◌∷◌}
use Rattle.edit_model.specs.Parts.{SurveyParts}
use Rattle.edit_line.specs.EditSets.{EditsParts, edits_of}
use Rattle.edit_line.specs.Lines.{LineParts}
use Rattle.edit_line.specs.Shapes.{shape_of}
use Rattle.edit_normal.specs.RuleLines.{normal_lines_of}

-- the lines, each numbered by its place, the first one's number being i
abbrev pub placed_from : ℕ → List LineParts → List (ℕ × LineParts)
placed_from i [] = []
placed_from i (line ∷ lines) = (i, line) ∷ placed_from (suc i) lines

-- the edits of a survey: the normal lines of its rules, numbered by their places
abbrev pub rule_edits : SurveyParts → EditsParts
rule_edits survey = edits_of (shape_of survey.fields) (placed_from 0 (normal_lines_of survey))
