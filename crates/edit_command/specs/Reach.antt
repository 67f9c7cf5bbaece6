-- When nothing stands in the way of releasing the records of a sheet.
use Rattle.std.specs.Prelude.{◌≡◌, ◌≤◌, ℕ, Bool, List, option_map}
use Rattle.std.specs.List.{AllZip}
use Rattle.edit_model.specs.Corrections.{IsCorrection}
use Rattle.edit_model.specs.Parts.{SurveyParts}
use Rattle.edit_model.specs.Points.{Point}
use Rattle.edit_model.specs.declared.value.Value.{Value}
use Rattle.bound_cert.specs.declared.outcome.Event.{Event}
use Rattle.bound_cert.specs.declared.outcome.GiftFault.{GiftFault}
use Rattle.bound_cert.specs.declared.outcome.Outcome.TheVariants.{Overflow}
use Rattle.edit_paths.specs.Cases.{case_of}
use Rattle.edit_paths.specs.Outcomes.{outcome_of, total_work}
use Rattle.edit_report.specs.Ends.{path_found}
use Rattle.edit_report.specs.declared.end.RowEnd.{RowEnd}
use Rattle.donor_search.specs.CleanRows.{row_at}
use Rattle.record_ends.specs.Ends.{StopsGiving}
use Rattle.pruned_rules.specs.Pruned.{kept_edits}
use Rattle.run_parts.specs.declared.status.Status.{Status}
use Rattle.run_parts.specs.declared.status.Status.TheVariants.{Done}

-- nothing stands in the way of the correction of a record among the rows of a sheet, which ended so: its search needs no more than the
-- budget, and no number of the search leaves the range, nor one of the values at the fields that it found, with the donor that the
-- record was given, or without one
pub record IsInReach (survey : SurveyParts) (budget : ℕ) (rows : List (List Value)) (row : List Value) (end : RowEnd) : Type 0 where
  pub enough : total_work (case_of survey (kept_edits survey) row) ≤ budget
  pub search_fits : (path : List Bool) (event : Event)
      → ¬ (outcome_of (case_of survey (kept_edits survey) row) budget ≡ Overflow path event)
  pub values_fit : (stop : GiftFault)
      → ¬ StopsGiving survey (kept_edits survey) row (path_found end.proof.outcome) (option_map (row_at rows) end.donor) stop

-- where some point is consistent, and nothing stands in the way of any record of those that ended so, all are released
abbrev pub IsDoneInReach : SurveyParts → ℕ → List (List Value) → List RowEnd → Status → Type 0
IsDoneInReach survey budget rows ends answer =
    (p : Point) → IsCorrection survey p → AllZip (IsInReach survey budget rows) rows ends → answer ≡ Done
