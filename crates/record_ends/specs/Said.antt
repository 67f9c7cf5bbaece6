-- What the end of a record says of it, in terms of corrections.
use Rattle.std.specs.Prelude.{◌≡◌, ℕ, ◌<◌, Bool, List, [], Option, Some, None}
use Rattle.edit_model.specs.Corrections.{IsCorrection, IsFirstLeast, IsLeastWeight, change_weight, word_of}
use Rattle.edit_model.specs.Parts.{SurveyParts}
use Rattle.edit_model.specs.Points.{Point}
use Rattle.edit_model.specs.declared.value.Value.{Value}
use Rattle.edit_line.specs.EditSets.{EditsParts}
use Rattle.bound_cert.specs.declared.outcome.Event.TheVariants as event
use Rattle.bound_cert.specs.declared.outcome.Outcome.{Outcome}
use Rattle.bound_cert.specs.declared.outcome.Outcome.TheVariants.{Budget, Change, Contradictory, Overflow}
use Rattle.edit_paths.specs.Cases.{case_of}
use Rattle.edit_paths.specs.Events.{IsStepOverflow, IsTestOverflow}
use Rattle.edit_paths.specs.Outcomes.{total_work}
use Rattle.back_subst.specs.Allowed.{Completes}
use Rattle.back_subst.specs.declared.gift.Gift.{Gift}
use Rattle.edit_report.specs.declared.end.RowEnd.{RowEnd}

-- with its new values the record is a correction; it differs from the record that was read exactly at the fields of the path;
-- their weight is the least of all corrections, and they are the first such fields
pub record IsCorrected (survey : SurveyParts) (row new : List Value) (path : List Bool) (weight : ℕ) : Type 0 where
  pub point : Point
  pub correction : Completes survey new [] point
  pub differs : word_of survey row point ≡ path
  pub weighs : change_weight survey row point ≡ weight
  pub least : IsLeastWeight survey row weight
  pub first : IsFirstLeast survey row path

-- what an outcome says, with the values that were given: they make a correction of least weight; or, where none were given, the
-- weight is the least of all corrections all the same, and the fields are the first that weigh so little; or the budget is less
-- than the search needs; or a number that is named leaves the range; or no point at all is consistent
abbrev pub OutcomeSays : SurveyParts → EditsParts → ℕ → List Value → Outcome → Option Gift → Type 0
OutcomeSays survey edits budget row (Change path weight cert) (Some gift) = IsCorrected survey row gift.row path weight
OutcomeSays survey edits budget row (Change path weight cert) None = IsLeastWeight survey row weight × IsFirstLeast survey row path
OutcomeSays survey edits budget row (Budget path work) gift = budget < total_work (case_of survey edits row)
OutcomeSays survey edits budget row (Overflow path (event.Step first second place)) gift =
    IsStepOverflow (case_of survey edits row) path first second place
OutcomeSays survey edits budget row (Overflow path (event.Test line field)) gift = IsTestOverflow (case_of survey edits row) path line field
OutcomeSays survey edits budget row (Contradictory cert) gift = (p : Point) → ¬ IsCorrection survey p

-- what the end of a record says of it
abbrev pub Says : SurveyParts → EditsParts → ℕ → List Value → RowEnd → Type 0
Says survey edits budget row end = OutcomeSays survey edits budget row end.proof.outcome end.gift
