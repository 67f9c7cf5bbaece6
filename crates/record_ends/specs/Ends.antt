-- What becomes of each record.
use Rattle.std.specs.Prelude.{◌≡◌, ⊤, ℕ, Bool, List, Option, Some, None, option_map}
use Rattle.edit_model.specs.Parts.{SurveyParts}
use Rattle.edit_model.specs.declared.value.Value.{Value}
use Rattle.edit_line.specs.EditSets.{EditsParts}
use Rattle.bound_cert.specs.declared.outcome.GiftFault.{GiftFault}
use Rattle.bound_cert.specs.declared.outcome.GiftFault.TheVariants as fault
use Rattle.bound_cert.specs.declared.outcome.Outcome.{Outcome}
use Rattle.bound_cert.specs.declared.outcome.Outcome.TheVariants.{Change}
use Rattle.edit_paths.specs.Cases.{case_of}
use Rattle.edit_paths.specs.Outcomes.{outcome_of}
use Rattle.back_subst.specs.Gifts.{hows_of, path_of}
use Rattle.back_subst.specs.GiveFaults.{AllHoldAt, AreAllComputed, StopsAtLine, StopsAtRule}
use Rattle.back_subst.specs.Given.{IsImputed}
use Rattle.back_subst.specs.declared.gift.Gift.{Gift}
use Rattle.donor_search.specs.CleanRows.{row_at}
use Rattle.edit_report.specs.declared.end.RowEnd.{RowEnd}

-- the fields that the path changes are given values, each number by the formulas, and it is told how each was found; every rule
-- holds at the record that is given, and no number of its sums leaves the range
pub record IsGiftOf (survey : SurveyParts) (edits : EditsParts) (row : List Value) (path : List Bool)
    (donor : Option (List Value)) (gift : Gift) : Type 0 where
  pub changed : ℕ
  pub fields : path_of survey.fields changed ≡ path
  pub imputed : IsImputed survey row changed donor gift.row
  pub computed : AreAllComputed survey edits changed donor gift.row
  pub how : gift.how ≡ hows_of survey changed donor gift.row
  pub tested : AllHoldAt survey gift.row

-- the giving stops at this fault: a number of a bound, or of the final test, leaves the range there first
abbrev pub StopsAt : SurveyParts → EditsParts → List Value → ℕ → Option (List Value) → GiftFault → Type 0
StopsAt survey edits row changed donor (fault.Bound field line) = StopsAtLine survey edits row changed donor field line
StopsAt survey edits row changed donor (fault.Test rule) = StopsAtRule survey edits row changed donor rule

-- no values are given to the fields that the path changes, since the giving stops at this fault
pub record StopsGiving (survey : SurveyParts) (edits : EditsParts) (row : List Value) (path : List Bool)
    (donor : Option (List Value)) (stop : GiftFault) : Type 0 where
  pub changed : ℕ
  pub fields : path_of survey.fields changed ≡ path
  pub stops : StopsAt survey edits row changed donor stop

-- what follows on an outcome, with the donor's values if there is one: on a change values, or the fault at which the giving
-- stops; on any other outcome neither
abbrev pub ComesOf : SurveyParts → EditsParts → List Value → Option (List Value) → Outcome → Option GiftFault → Option Gift → Type 0
ComesOf survey edits row donor (Change path weight cert) None (Some gift) = IsGiftOf survey edits row path donor gift
ComesOf survey edits row donor (Change path weight cert) (Some stop) None = StopsGiving survey edits row path donor stop
ComesOf survey edits row donor (Change path weight cert) None None = ⊥
ComesOf survey edits row donor (Change path weight cert) (Some stop) (Some gift) = ⊥
ComesOf survey edits row donor outcome None None = ⊤
ComesOf survey edits row donor outcome stop gift = ⊥

-- what becomes of a record among the rows of a sheet: the outcome of its search within the budget, and what follows on it, with
-- the values of its donor
pub record IsEndOf (survey : SurveyParts) (edits : EditsParts) (budget : ℕ)
    (rows : List (List Value)) (row : List Value) (end : RowEnd) : Type 0 where
  pub outcome : end.proof.outcome ≡ outcome_of (case_of survey edits row) budget
  pub follows : ComesOf survey edits row (option_map (row_at rows) end.donor) end.proof.outcome end.proof.gift end.gift
