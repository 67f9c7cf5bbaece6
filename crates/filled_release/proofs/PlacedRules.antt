-- The edits of all rules, numbered by their places.
use Rattle.std.proofs.Common.{◌≡◌, ◌≤◌, ℕ, suc, List, [], ◌∷◌, length, refl, ap, arith}
use Rattle.edit_model.specs.Parts.{SurveyParts}
use Rattle.edit_model.specs.Surveys.{IsWellFormed}
use Rattle.edit_line.specs.Lines.{LineParts}
use Rattle.edit_normal.specs.RuleEdits.{placed_from, rule_edits}
use Rattle.edit_normal.specs.RuleLines.{normal_lines_of}
use Rattle.edit_normal.proofs.NormalLines.{normal-few}
use Rattle.deduce_fill.specs.Tests.{ArePlacedFrom, most_edits}

pub are-placed : (i : ℕ) (lines : List LineParts) → ArePlacedFrom i (placed_from i lines)
are-placed i [] = tt
are-placed i (line ∷ lines) = (refl, are-placed (suc i) lines)

placed-length : (i : ℕ) (lines : List LineParts) → length (placed_from i lines) ≡ length lines
placed-length i [] = refl
placed-length i (line ∷ lines) = ap suc (placed-length (suc i) lines)

pub few-edits : (survey : SurveyParts) → IsWellFormed survey → length (rule_edits survey).lines ≤ most_edits
few-edits survey well = omega (arith, placed-length 0 (normal_lines_of survey), normal-few survey well)
