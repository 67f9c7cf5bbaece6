-- Corrections that leave the fixed fields of a record alone, and the least of these.
use Rattle.std.specs.Prelude.{◌≡◌, ℕ, ◌<◌, ◌≤◌, ◌&&◌, Bool, true, List, IsTrue, length}
use Rattle.std.specs.List.{list_any}
use Rattle.edit_model.specs.Corrections.{IsCorrection, change_weight, is_first, path_order, word_of}
use Rattle.edit_model.specs.FieldSets.{has_number}
use Rattle.edit_model.specs.Parts.{SurveyParts}
use Rattle.edit_model.specs.Points.{Point}
use Rattle.edit_model.specs.RowPoints.{Agrees}
use Rattle.edit_model.specs.Rows.{is_bad, value_of}
use Rattle.edit_model.specs.declared.value.Value.{Value}

-- whether some fixed field has no value
abbrev pub lacks_value : SurveyParts → List Value → ℕ → Bool
lacks_value survey row fixed = list_any (λ f. has_number fixed f && is_bad (value_of row f)) (path_order survey.fields)

-- the point has the record's values at the fixed fields
abbrev pub AgreesAt : List Value → ℕ → Point → Type 0
AgreesAt row fixed p = (f : ℕ) → f < length row → has_number fixed f ≡ true → Agrees row p f

-- a correction that leaves the fixed fields alone
pub record IsLinkedCorrection (survey : SurveyParts) (row : List Value) (fixed : ℕ) (p : Point) : Type 0 where
  pub correction : IsCorrection survey p
  pub agrees : AgreesAt row fixed p

-- the least weight of these: one of them has it, and none weighs less
pub record IsLeastAmong (survey : SurveyParts) (row : List Value) (fixed w : ℕ) : Type 0 where
  pub reached : (p : Point) × IsLinkedCorrection survey row fixed p × (change_weight survey row p ≡ w)
  pub least : (p : Point) → IsLinkedCorrection survey row fixed p → w ≤ change_weight survey row p

-- the word is the first of those of them that weigh so much
pub record IsFirstAmong (survey : SurveyParts) (row : List Value) (fixed w : ℕ) (word : List Bool) : Type 0 where
  pub reached : (p : Point) × IsLinkedCorrection survey row fixed p × (change_weight survey row p ≡ w) × (word_of survey row p ≡ word)
  pub first : (p : Point) → IsLinkedCorrection survey row fixed p → change_weight survey row p ≡ w
      → IsTrue (is_first word (word_of survey row p))
