-- The file of filled records, and the line that tells of it.
use Rattle.std.specs.Prelude.{◌≡◌, ◌==◌, ℕ, Bool, true, false, not, List, [], ◌∷◌, ◌++◌, codes, decimal, length}
use Rattle.std.specs.List.{AllZip, filter, list_any, sum_by}
use Rattle.edit_line.specs.EditSets.{lines_without}
use Rattle.edit_model.specs.Parts.{SurveyParts}
use Rattle.edit_model.specs.declared.field.Field.{Field}
use Rattle.edit_model.specs.declared.value.Value.{Value}
use Rattle.edit_normal.specs.RuleEdits.{rule_edits}
use Rattle.record_text.specs.Sheets.{SheetParts}
use Rattle.record_text.specs.Texts.{records_text}
use Rattle.edit_report.specs.Released.{texts_from}
use Rattle.deduce_fill.specs.Filled.{IsFilled}
use Rattle.deduce_fill.specs.Laws.{FillsForced, HasNoCompletion, IsShown}
use Rattle.deduce_fill.specs.declared.filled.Filled.{Filled}
use Rattle.deduce_fill.specs.declared.filled.Filled.TheVariants.{Blocked, Budget, Done, Overflow}
use Rattle.deduce_fill.specs.declared.filled.Forced.{Forced}
use Rattle.filled_release.specs.declared.filled_file.FilledFile.{FilledFile}

-- ---- the answers

-- what filling makes of a record by all rules of the survey and within this budget: it fills just the values that the rules
-- force, blocks only a record that has no completion, and its steps show both
pub record IsAnswerFor (survey : SurveyParts) (budget : ℕ) (row : List Value) (answer : Filled) : Type 0 where
  pub exact : IsFilled survey (rule_edits survey) row budget answer
  pub forced : FillsForced survey row answer
  pub blocked : HasNoCompletion survey row answer
  pub shown : IsShown survey (lines_without (rule_edits survey).lines) row answer

-- ---- the released file

-- whether one of these values is forced at the field
abbrev pub is_forced : List Forced → ℕ → Bool
is_forced forced f = list_any (λ (e : Forced). e.field == f) forced

-- the texts of a record afterwards, column by column: that of the value at a field at which one is forced, and every other
-- as it was read
abbrev pub filled_texts : List Field → List ℕ → List (List ℕ) → Filled → List (List ℕ)
filled_texts fields columns texts (Done new forced) = texts_from fields columns (is_forced forced) new 0 texts
filled_texts fields columns texts (Blocked steps) = texts
filled_texts fields columns texts (Budget work) = texts
filled_texts fields columns texts (Overflow test) = texts

-- the rows afterwards, in order: all that were read
abbrev pub filled_rows : List Field → List ℕ → List (List (List ℕ)) → List Filled → List (List (List ℕ))
filled_rows fields columns (texts ∷ row_texts) (answer ∷ answers) =
    filled_texts fields columns texts answer ∷ filled_rows fields columns row_texts answers
filled_rows fields columns _ _ = []

-- the released file: the header and the rows, as csv writes them
abbrev pub filled_text : SurveyParts → SheetParts → List Filled → List ℕ
filled_text survey sheet answers = records_text (sheet.header ∷ filled_rows survey.fields sheet.columns sheet.row_texts answers)

-- ---- the summary

-- how many fields of the record are filled
abbrev pub filled_fields : Filled → ℕ
filled_fields (Done new forced) = length forced
filled_fields (Blocked steps) = 0
filled_fields (Budget work) = 0
filled_fields (Overflow test) = 0

-- whether the record has no completion
abbrev pub is_blocked : Filled → Bool
is_blocked (Done new forced) = false
is_blocked (Blocked steps) = true
is_blocked (Budget work) = false
is_blocked (Overflow test) = false

-- whether the budget or the range of numbers ends what is done for the record
abbrev pub is_stopped : Filled → Bool
is_stopped (Done new forced) = false
is_stopped (Blocked steps) = false
is_stopped (Budget work) = true
is_stopped (Overflow test) = true

-- how many records there are, how many fields of them are filled, and how many records are blocked and stopped
abbrev pub filled_summary : List Filled → List ℕ
filled_summary answers =
    codes "records " ++ (decimal (length answers)
    ++ (codes " filled " ++ (decimal (sum_by filled_fields answers)
    ++ (codes " blocked " ++ (decimal (length (filter is_blocked answers))
    ++ (codes " stopped " ++ decimal (length (filter is_stopped answers))))))))

-- ---- both

-- what filling makes of the records of a sheet within this budget: an answer for each, in order, and these are what the file
-- and the summary tell; it is whole where no record is stopped
pub record IsFilledFile (survey : SurveyParts) (sheet : SheetParts) (budget : ℕ) (file : FilledFile) : Type 0 where
  pub answers : List Filled
  pub each : AllZip (IsAnswerFor survey budget) sheet.rows answers
  pub released : file.released.items ≡ filled_text survey sheet answers
  pub summary : file.summary.items ≡ filled_summary answers
  pub whole : file.whole ≡ not (list_any is_stopped answers)
