use Rattle.std.proofs.Common.{◌≡◌, ℕ, suc, Bool, true, false, List, [], ◌∷◌, All, inl, inr, refl, ap, sym, subst}
use Rattle.fraction128.specs.declared.fraction.Fraction.{Fraction}
use Rattle.edit_model.specs.Parts.{SurveyParts}
use Rattle.edit_model.specs.Rows.{IsRow, value_of}
use Rattle.edit_model.specs.Surveys.{IsField, IsWellFormed}
use Rattle.edit_model.specs.declared.field.Field.{Field}
use Rattle.edit_model.specs.declared.rule.Rule.{Rule}
use Rattle.edit_model.specs.declared.value.Value.{Value}
use Rattle.edit_model.specs.declared.value.Value.TheVariants.{Bad, Code, Number}
use Rattle.edit_line.specs.Divisors.{divisor_of, reduced}
use Rattle.edit_line.specs.EditSets.{base_lines}
use Rattle.edit_line.specs.Lines.{IsLine, LineParts}
use Rattle.edit_line.specs.Reductions.{IsIn, lines_of, reduce_derived}
use Rattle.edit_line.specs.Sets.{none_is_empty}
use Rattle.edit_line.specs.Shapes.{shape_of}
use Rattle.edit_line.proofs.DivisionLaws.{IsLine-divided, divisor-above}
use Rattle.edit_line.proofs.Members.{all-in, in-all, in-either, in-flat_map, in-flat_map-out}
use Rattle.edit_line.proofs.NegationLines.{never-is}
use Rattle.edit_line.proofs.ReductionLaws.{all-reduced}
use Rattle.edit_line.proofs.SetLaws.{AreSets-within}
use Rattle.edit_normal.specs.NormalForm.{rule_lines_of}
use Rattle.edit_normal.specs.RuleEdits.{placed_from}
use Rattle.edit_normal.specs.RuleLines.{normal_lines_of}
use Rattle.edit_normal.proofs.NormalLines.{normal-lines, normal-over}
use Rattle.edit_normal.proofs.RuleEditLaws.{placed-edits}
use Rattle.edit_paths.specs.Cases.{IsCase}
use Rattle.panel_link.specs.Pins.{code_kept, fixed_fields, kept_rules, linked_case, linked_edits, linked_lines, number_kept, pinned, value_kept}
use Rattle.panel_link.proofs.PinParts.{code-full, code-none, number-line, others, others-within, parts, parts-line, wholes-full}

-- The survey, the lines with the pins, and the record are a case.

reduced-is : (line : LineParts) → IsLine line → IsLine (reduced line)
unfolding reduced
reduced-is line is = IsLine-divided line (divisor_of line.factors line.constant) (divisor-above line.factors line.constant) is

module _ (fields : List Field) (are : All IsField fields) where
  number-is : (f : ℕ) (x : Fraction) (line : LineParts) → IsIn line (rule_lines_of (shape_of fields) (number_kept f x)) → IsLine line
  number-is f x line there = by (subst (λ (ls : List LineParts). IsIn line ls) (number-line (shape_of fields) f x (wholes-full fields are)) there)
    where
      by : IsIn line (reduced (parts (shape_of fields) f x (wholes-full fields are)) ∷ []) → IsLine line
      by (inl same) =
          subst IsLine (sym same) (reduced-is (parts (shape_of fields) f x (wholes-full fields are))
          (parts-line (shape_of fields) f x (wholes-full fields are)))
      by (inr none) = absurd none

  code-is : (f code : ℕ) (line : LineParts) → IsIn line (rule_lines_of (shape_of fields) (code_kept f code)) → IsLine line
  code-is f code line there = by (none_is_empty (others (shape_of fields) f code)) refl
    where
      by : (b : Bool) → none_is_empty (others (shape_of fields) f code) ≡ b → IsLine line
      by true full = elim (subst (λ (ls : List LineParts). IsIn line ls) (code-full (shape_of fields) f code full) there) [
        | inl same ↦ subst IsLine (sym same) (never-is (shape_of fields) (others (shape_of fields) f code)
            (AreSets-within _ _ full (others-within (shape_of fields) f code)))
        | inr none ↦ absurd none
      ]
      by false empty = absurd (subst (λ (ls : List LineParts). IsIn line ls) (code-none (shape_of fields) f code empty) there)

  kept-is : (f : ℕ) (v : Value) (rule : Rule) (line : LineParts) → IsIn rule (value_kept f v) → IsIn line (rule_lines_of (shape_of fields) rule) → IsLine line
  kept-is f (Number x) rule line (inl same) there = number-is f x line (subst (λ (r : Rule). IsIn line (rule_lines_of (shape_of fields) r)) same there)
  kept-is f (Number x) rule line (inr none) there = absurd none
  kept-is f (Code code) rule line (inl same) there = code-is f code line (subst (λ (r : Rule). IsIn line (rule_lines_of (shape_of fields) r)) same there)
  kept-is f (Code code) rule line (inr none) there = absurd none
  kept-is f Bad rule line none there = absurd none

base-lines : (i : ℕ) (lines : List LineParts) → lines_of (base_lines (placed_from i lines)) ≡ lines
base-lines i [] = refl
base-lines i (line ∷ lines) = ap (λ (ls : List LineParts). line ∷ ls) (base-lines (suc i) lines)

module _ (survey : SurveyParts) (row : List Value) (fixed : ℕ) (well : IsWellFormed survey) where
  linked-lines : All IsLine (linked_lines survey row fixed)
  linked-lines = all-in IsLine (linked_lines survey row fixed) each
    where
      each : (line : LineParts) → IsIn line (linked_lines survey row fixed) → IsLine line
      each line there =
          let (rule, rule_in, made) = in-flat_map-out (λ (rule : Rule). rule_lines_of (shape_of survey.fields) rule) line
          (pinned survey row fixed).rules there in
          elim (in-either rule survey.rules (kept_rules row (fixed_fields survey.fields fixed)) rule_in) [
            | inl own ↦ in-all IsLine line (normal_lines_of survey) (normal-lines survey well)
                (in-flat_map (λ (rule : Rule). rule_lines_of (shape_of survey.fields) rule) rule line survey.rules own made)
            | inr kept ↦ let (f, f_in, of) = in-flat_map-out (λ f. value_kept f (value_of row f)) rule (fixed_fields survey.fields fixed) kept in
                kept-is survey.fields well.fields f (value_of row f) rule line of made
          ]

  pub linked-is : IsRow survey.fields row → IsCase (linked_case survey row fixed)
  linked-is is_row = record {
    fields = well.fields;
    row = is_row;
    edits = record {
      edits = placed-edits (shape_of survey.fields) (linked_lines survey row fixed) (normal-over (pinned survey row fixed));
      lines_are = refl;
      are_lines = all-reduced IsLine (base_lines (linked_edits survey row fixed).lines) (reduce_derived (base_lines (linked_edits survey row fixed).lines)) refl
          (subst (λ (ls : List LineParts). All IsLine ls) (sym (base-lines 0 (linked_lines survey row fixed))) linked-lines);
    };
  }
