-- The fields at which values are forced, and the record with these values.
use Rattle.std.proofs.Common.{◌≡◌, ◌<◌, ◌≤◌, ◌==◌, true, false, ℕ, List, [], ◌∷◌, inl, inr, length, refl, subst, sym, arith}
use Rattle.std.specs.Prelude.{IfOk, IsSomeAnd, Result, Ok, Err, slice_get}
use Rattle.std.proofs.lemmas.Bool.Decides.{Decides-eqb}
use Rattle.foundation.specs.Limits.{most_fields}
use Rattle.foundation.specs.declared.memory.OutOfMemory.{OutOfMemory}
use Rattle.edit_model.specs.Parts.{SurveyParts}
use Rattle.edit_model.specs.Rows.{IsOfKind, IsRow}
use Rattle.edit_model.specs.declared.field.Field.{Field}
use Rattle.edit_model.specs.declared.value.Value.{Value}
use Rattle.edit_model.proofs.RowLaws.{row-length, row-set}
use Rattle.edit_line.specs.EditSets.{EditsParts, lines_without}
use Rattle.edit_line.specs.Reductions.{IsIn}
use Rattle.edit_line.proofs.Members.{all-in}
use Rattle.edit_normal.specs.RuleEdits.{rule_edits}
use Rattle.deduce_fill.specs.Filled.{IsFilled}
use Rattle.deduce_fill.specs.Forced.{IsForced}
use Rattle.deduce_fill.specs.Laws.{FillsForced, HasNoCompletion, IsShown, with_forced}
use Rattle.deduce_fill.specs.declared.filled.Filled.{Filled}
use Rattle.deduce_fill.specs.declared.filled.Filled.TheVariants.{Blocked, Budget, Done, Overflow}
use Rattle.deduce_fill.specs.declared.filled.Forced.{Forced}
use Rattle.filled_release.specs.FilledFiles.{IsAnswerFor, is_forced}
use Rattle.filled_release.specs.inner.FilledRows.{CanBeWritten}

-- none is forced at a field where there is none
pub none-forced : (forced : List Forced) (f : ℕ) → (length forced == 0) ≡ true → is_forced forced f ≡ false
none-forced [] f none = refl
none-forced (e ∷ forced) f none = let n = (Decides-eqb (length (e ∷ forced)) 0).0 none in absurd (omega (arith, n))

-- a value that the field may have
abbrev Fits : List Field → Forced → Type 0
Fits fields e = IsSomeAnd (slice_get fields e.field) (λ (field : Field). IsOfKind field.kind e.value)

-- a record with such values is a record
row-with : (fields : List Field) (row : List Value) (forced : List Forced) → IsRow fields row → ((e : Forced) → IsIn e forced → Fits fields e)
    → IsRow fields (with_forced row forced)
row-with fields row [] is fit = is
row-with fields row (e ∷ forced) is fit =
    row-with fields _ forced (row-set fields row e.field e.value is (fit e (inl refl))) (λ other there. fit other (inr there))

-- what fills just what is forced can be written
pub can-be-written : (survey : SurveyParts) (row : List Value) (answer : Filled) → IsRow survey.fields row → length survey.fields ≤ most_fields
    → FillsForced survey row answer → CanBeWritten survey.fields answer
can-be-written survey row (Done new forced) is few fills =
    let (new_is, exact) = fills new forced refl in
    let due : (e : Forced) → IsIn e forced → IsForced survey row e.field e.value = λ e there. (exact e.field e.value).0 (e, there, refl, refl) in (
      subst (λ (r : List Value). IsRow survey.fields r) (sym new_is) (row-with survey.fields row forced is (λ e there. (due e there).fits)),
      all-in (λ (e : Forced). e.field < most_fields) forced
          (λ e there. let within = (due e there).within in omega (arith, within, row-length survey.fields row is)),
    )
can-be-written survey row (Blocked steps) is few fills = tt
can-be-written survey row (Budget work) is few fills = tt
can-be-written survey row (Overflow test) is few fills = tt

-- and so can what comes of a filling
pub filled-written : (survey : SurveyParts) (row : List Value) (result : Result Filled OutOfMemory)
    → IsRow survey.fields row → length survey.fields ≤ most_fields → IfOk result (FillsForced survey row) → IfOk result (CanBeWritten survey.fields)
filled-written survey row (Ok answer) is few fills = can-be-written survey row answer is few fills
filled-written survey row (Err fault) is few fills = tt

-- what comes of a filling by the edits of all rules is an answer
pub filled-answer : (survey : SurveyParts) (budget : ℕ) (row : List Value) (edits : EditsParts) (result : Result Filled OutOfMemory)
    → edits ≡ rule_edits survey → IfOk result (IsFilled survey edits row budget) → IfOk result (FillsForced survey row)
    → IfOk result (HasNoCompletion survey row) → IfOk result (IsShown survey (lines_without edits.lines) row)
    → IfOk result (IsAnswerFor survey budget row)
filled-answer survey budget row edits (Ok answer) same exact forced blocked shown = record {
  exact = subst (λ (e : EditsParts). IsFilled survey e row budget answer) same exact;
  forced = forced;
  blocked = blocked;
  shown = subst (λ (e : EditsParts). IsShown survey (lines_without e.lines) row answer) same shown;
}
filled-answer survey budget row edits (Err fault) same exact forced blocked shown = tt
