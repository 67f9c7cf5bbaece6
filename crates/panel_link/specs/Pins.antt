-- Pins: the lines by which fields keep the values that a record has there.
use Rattle.std.specs.Prelude.{ℕ, ◌^◌, ◌++◌, false, List, [], ◌∷◌}
use Rattle.std.specs.List.{filter, flat_map}
use lib.IntN.{neg_ℤ}
use Rattle.fraction128.specs.declared.fraction.Fraction.{Fraction}
use Rattle.edit_model.specs.Corrections.{path_order}
use Rattle.edit_model.specs.FieldSets.{has_number}
use Rattle.edit_model.specs.Parts.{SurveyParts, survey_of}
use Rattle.edit_model.specs.Rows.{value_of}
use Rattle.edit_model.specs.declared.field.Field.{Field}
use Rattle.edit_model.specs.declared.rule.Compare.TheVariants.{Eq}
use Rattle.edit_model.specs.declared.rule.Rule.{Rule}
use Rattle.edit_model.specs.declared.rule.Term.{Term}
use Rattle.edit_model.specs.declared.rule.Test.TheVariants as test
use Rattle.edit_model.specs.declared.value.Value.{Value}
use Rattle.edit_model.specs.declared.value.Value.TheVariants.{Bad, Code, Number}
use Rattle.edit_line.specs.EditSets.{EditsParts}
use Rattle.edit_line.specs.Lines.{LineParts}
use Rattle.edit_normal.specs.RuleEdits.{rule_edits}
use Rattle.edit_normal.specs.RuleLines.{normal_lines_of}
use Rattle.edit_paths.specs.Cases.{SearchCase, case_of}

-- the one term q times a field, of a number p/q
abbrev pub times_field : ℕ → Fraction → List Term
times_field f x = record { field = f; factor = x.denominator } ∷ []

-- the rule that the number at a field is p/q: q times it, less p, is 0
abbrev pub number_kept : ℕ → Fraction → Rule
number_kept f x = record {
  conditions = [];
  conclusion = test.Number (record { terms = times_field f x; constant = neg_ℤ x.numerator; compare = Eq });
}

-- the rule that the code at a field is this one
abbrev pub code_kept : ℕ → ℕ → Rule
code_kept f code = record { conditions = []; conclusion = test.Codes f false (2 ^ code) }

-- the rule that a field keeps its value; where it has none, there is none
abbrev pub value_kept : ℕ → Value → List Rule
value_kept f (Number x) = number_kept f x ∷ []
value_kept f (Code code) = code_kept f code ∷ []
value_kept f Bad = []

-- the fixed fields, in path order
abbrev pub fixed_fields : List Field → ℕ → List ℕ
fixed_fields fields fixed = filter (has_number fixed) (path_order fields)

-- the rules that these fields of a record keep their values
abbrev pub kept_rules : List Value → List ℕ → List Rule
kept_rules row fields = flat_map (λ f. value_kept f (value_of row f)) fields

-- the survey with, after its own, the rules that the fixed fields of a record keep their values
abbrev pub pinned : SurveyParts → List Value → ℕ → SurveyParts
pinned survey row fixed = survey_of survey.fields (survey.rules ++ kept_rules row (fixed_fields survey.fields fixed))

-- its normal lines: those of the survey, and after them the pins. The pin of a number is one equality. That of a code is one line,
-- never where the field has another code; where the field has no other, that line has an empty set, and there is no pin
abbrev pub linked_lines : SurveyParts → List Value → ℕ → List LineParts
linked_lines survey row fixed = normal_lines_of (pinned survey row fixed)

-- the lines of the rules and the pins as edits, numbered by their places, from 0
abbrev pub linked_edits : SurveyParts → List Value → ℕ → EditsParts
linked_edits survey row fixed = rule_edits (pinned survey row fixed)

-- what is searched for a record whose fixed fields keep their values
abbrev pub linked_case : SurveyParts → List Value → ℕ → SearchCase
linked_case survey row fixed = case_of survey (linked_edits survey row fixed) row
