-- The lines of a survey's rules that are kept, and why the others are dropped.
use Rattle.std.specs.Prelude.{Bool, List, map}
use Rattle.edit_model.specs.Parts.{SurveyParts}
use Rattle.edit_line.specs.EditSets.{EditsParts, edits_of}
use Rattle.edit_line.specs.Shapes.{shape_of}
use Rattle.edit_normal.specs.RuleLines.{normal_lines_of}
use Rattle.redundancy.specs.Verdicts.{keeps_line, usable_from, verdicts_of}
use Rattle.redundancy.specs.declared.verdict.Verdict.{Verdict}
use Rattle.pruned_rules.specs.Limits.{pruning_budget}

-- the verdicts on the lines of the rules
abbrev pub rule_verdicts : SurveyParts → List Verdict
rule_verdicts survey = verdicts_of survey (normal_lines_of survey) pruning_budget

-- which lines are kept
abbrev pub rule_flags : SurveyParts → List Bool
rule_flags survey = map keeps_line (rule_verdicts survey)

-- the edits that records are searched by: the lines that are kept, each numbered by its place among all
abbrev pub kept_edits : SurveyParts → EditsParts
kept_edits survey = edits_of (shape_of survey.fields) (usable_from 0 (normal_lines_of survey) (rule_flags survey))
