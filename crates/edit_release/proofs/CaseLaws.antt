use Rattle.std.proofs.Common.{ℕ, List, All, refl, sym, subst}
use Rattle.edit_model.specs.Parts.{SurveyParts}
use Rattle.edit_model.specs.Rows.{IsRow}
use Rattle.edit_model.specs.Surveys.{IsWellFormed}
use Rattle.edit_model.specs.declared.value.Value.{Value}
use Rattle.edit_line.specs.EditSets.{base_lines}
use Rattle.edit_line.specs.Lines.{IsLine, LineParts}
use Rattle.edit_line.specs.Reductions.{reduce_derived}
use Rattle.edit_line.specs.Shapes.{shape_of}
use Rattle.edit_line.proofs.ReductionLaws.{all-reduced}
use Rattle.edit_normal.specs.RuleLines.{normal_lines_of}
use Rattle.edit_normal.proofs.NormalLines.{normal-lines, normal-over}
use Rattle.linear_elim.proofs.ResultLaws.{base-plain}
use Rattle.edit_paths.specs.Cases.{AreUsableAmong, IsCase, case_of}
use Rattle.pruned_rules.specs.Pruned.{kept_edits, rule_flags}
use Rattle.pruned_rules.proofs.KeptLaws.{taken-all, taken-edits, taken-given}

-- The kept lines of a survey's rules, as edits, and one of its records.

-- they are a case
pub rule-case : (survey : SurveyParts) (row : List Value) → IsWellFormed survey → IsRow survey.fields row → IsCase (case_of survey (kept_edits survey) row)
rule-case survey row formed is = record {
  fields = formed.fields;
  row = is;
  edits = record {
    edits = taken-edits (shape_of survey.fields) (normal_lines_of survey) (rule_flags survey) (normal-over survey);
    lines_are = refl;
    are_lines =
        all-reduced IsLine (base_lines edits) (reduce_derived (base_lines edits)) refl
        (subst (λ (lines : List LineParts). All IsLine lines) (sym (base-plain edits)) (taken-all IsLine (normal_lines_of survey) (rule_flags survey)
        (normal-lines survey formed)));
  };
}
  where
    edits : List (ℕ × LineParts)
    edits = (kept_edits survey).lines

-- they stand among the normal lines, and may be used
pub rules-given : (survey : SurveyParts) → AreUsableAmong (normal_lines_of survey) (rule_flags survey) (kept_edits survey).lines
rules-given survey = taken-given (normal_lines_of survey) (rule_flags survey)
