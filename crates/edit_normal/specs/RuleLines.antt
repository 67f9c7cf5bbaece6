use Rattle.std.specs.Prelude.{ℕ, suc, ◌++◌, ◌≡◌, ◌↔◌, List, [], ◌∷◌, Some, All, map, slice_get}
use Rattle.std.specs.List.{AllByRecursion, flat_map}
use Rattle.edit_model.specs.Parts.{SurveyParts}
use Rattle.edit_model.specs.Points.{HasCodesFrom, Holds, Point}
use Rattle.edit_model.specs.declared.rule.Rule.{Rule}
use Rattle.edit_line.specs.Lines.{AllHold, LineHolds, LineParts}
use Rattle.edit_line.specs.Shapes.{Domain, shape_of}
use Rattle.edit_normal.specs.NormalForm.{rule_lines_of}
use Rattle.edit_normal.specs.declared.rule_line.RuleLine.{RuleLine}

-- the lines, each with the number of their rule
abbrev pub numbered : ℕ → List LineParts → List RuleLine
numbered i lines = map (λ line. record { rule = i; line = line }) lines

-- the normal lines of each rule, with its number counted from i, in order
abbrev pub rule_lines_from : List Domain → ℕ → List Rule → List RuleLine
rule_lines_from shape i [] = []
rule_lines_from shape i (rule ∷ rules) = numbered i (rule_lines_of shape rule) ++ rule_lines_from shape (suc i) rules

-- the lines of the rule of this number all hold at the point
abbrev pub LinesHold : List RuleLine → ℕ → Point → Type 0
LinesHold lines i p = All (λ (l : RuleLine). l.rule ≡ i → LineHolds l.line p) lines

-- at a point with codes of the survey, the lines of each rule all hold exactly where the rule does
abbrev pub SayEachRule : SurveyParts → List RuleLine → Type 0
SayEachRule survey lines = (i : ℕ) (rule : Rule) (p : Point)
    → slice_get survey.rules i ≡ Some rule → HasCodesFrom 0 survey.fields p → LinesHold lines i p ↔ Holds rule p

-- at a point with codes of the survey, the lines all hold exactly where all its rules do
abbrev pub SayAllRules : SurveyParts → List LineParts → Type 0
SayAllRules survey lines = (p : Point)
    → HasCodesFrom 0 survey.fields p → AllHold lines p ↔ AllByRecursion (λ rule. Holds rule p) survey.rules

-- the normal lines of all rules of a survey, in order
abbrev pub normal_lines_of : SurveyParts → List LineParts
normal_lines_of survey = flat_map (λ rule. rule_lines_of (shape_of survey.fields) rule) survey.rules
