use Rattle.std.proofs.Common.{◌≡◌, ◌↔◌, ◌<◌, ℕ, Bool, true, false, nat_lt, List, Option, None, refl, sym, ◌∙◌, arith}
use Rattle.std.specs.Prelude.{option_map}
use Rattle.std.proofs.lemmas.Bool.Decides.{Decides-ltb, nat_tests}
use Rattle.edit_model.specs.Corrections.{IsCorrection}
use Rattle.edit_model.specs.Parts.{SurveyParts}
use Rattle.edit_model.specs.Points.{Point}
use Rattle.edit_model.specs.declared.value.Value.{Value}
use Rattle.edit_line.specs.EditSets.{EditsParts}
use Rattle.bound_cert.specs.declared.cert.Cert.{Cert}
use Rattle.bound_cert.specs.declared.outcome.Event.TheVariants as event
use Rattle.bound_cert.specs.declared.outcome.Outcome.{Outcome}
use Rattle.bound_cert.specs.declared.outcome.Outcome.TheVariants as outcome
use Rattle.edit_paths.specs.Cases.{IsCase, Meets, case_of}
use Rattle.edit_paths.specs.Outcomes.{outcome_of, total_work}
use Rattle.edit_paths.proofs.BudgetLaws.{enough-budget}
use Rattle.edit_paths.proofs.ChoiceLaws.{contradictory}
use Rattle.donor_search.specs.CleanRows.{row_at}
use Rattle.edit_report.specs.declared.end.RowEnd.{RowEnd}
use Rattle.record_ends.specs.Ends.{ComesOf, IsEndOf}
use Rattle.record_ends.specs.Said.{OutcomeSays, Says}
use Rattle.record_ends.proofs.OverflowLaws.{step-shown, test-shown}

-- What an outcome other than a change says.

-- an outcome for which no values are given
abbrev pub IsNoChange : Outcome → Type 0
IsNoChange o = (path : List Bool) (weight : ℕ) (cert : Cert) → ¬ (o ≡ outcome.Change path weight cert)

module _ (survey : SurveyParts) (edits : EditsParts) (row : List Value) (budget : ℕ) (is : IsCase (case_of survey edits row))
    (same : (p : Point) → Meets (case_of survey edits row) p ↔ IsCorrection survey p) where
  -- a budget that was passed is less than the search needs
  passed : (path : List Bool) (work : ℕ) → outcome_of (case_of survey edits row) budget ≡ outcome.Budget path work
      → budget < total_work (case_of survey edits row)
  passed path work e = by (nat_lt budget (total_work (case_of survey edits row))) refl
    where
      by : (b : Bool) → nat_lt budget (total_work (case_of survey edits row)) ≡ b → budget < total_work (case_of survey edits row)
      by true less = (Decides-ltb budget (total_work (case_of survey edits row))).0 less
      by false more =
          absurd (enough-budget (case_of survey edits row) budget (grind (arith, nat_tests, more)) path work e)

  no-change-says : (o : Outcome) → o ≡ outcome_of (case_of survey edits row) budget → IsNoChange o → OutcomeSays survey edits budget row o None
  no-change-says (outcome.Change path weight cert) e none = absurd (none path weight cert refl)
  no-change-says (outcome.Budget path work) e none = passed path work (sym e)
  no-change-says (outcome.Overflow path (event.Step first second place)) e none = step-shown (case_of survey edits row) budget path first second place (sym e)
  no-change-says (outcome.Overflow path (event.Test line field)) e none = test-shown (case_of survey edits row) budget path line field (sym e)
  no-change-says (outcome.Contradictory cert) e none = λ p correction. contradictory (case_of survey edits row) is budget cert (sym e) p ((same p).1 correction)

  -- nothing follows on it, whatever the donor
  no-change-follows : (donor : Option (List Value)) (o : Outcome) → IsNoChange o → ComesOf survey edits row donor o None None
  no-change-follows donor (outcome.Change path weight cert) none = absurd (none path weight cert refl)
  no-change-follows donor (outcome.Budget path work) none = tt
  no-change-follows donor (outcome.Overflow path e) none = tt
  no-change-follows donor (outcome.Contradictory cert) none = tt

  -- so the end of a record for which no change was found tells the outcome, and nothing beside it
  pub left-out : (rows : List (List Value)) (o : Outcome) (end : RowEnd) → o ≡ outcome_of (case_of survey edits row) budget → IsNoChange o
      → end.proof.outcome ≡ o → end.proof.gift ≡ None → end.gift ≡ None
      → IsEndOf survey edits budget rows row end × Says survey edits budget row end
  left-out rows o end e none told stop gift = (
    record { outcome = told ∙ e; follows = rw (told, stop, gift) (no-change-follows (option_map (row_at rows) end.donor) o none) },
    rw (told, gift) (no-change-says o e none),
  )
