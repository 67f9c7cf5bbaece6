-- An edit of a sheet whose records all have corrections in reach releases them all.
use Rattle.std.proofs.Common.{◌≡◌, ℕ, List, [], ◌∷◌, Bool, Option, Some, None, IsSome, option_map, ap, inl, inr, refl, subst, sym, arith}
use Rattle.std.specs.List.{AllZip}
use Rattle.edit_release.proofs.GuaranteeLaws.{edit-says}
use Rattle.edit_model.specs.Corrections.{IsCorrection}
use Rattle.edit_model.specs.Parts.{SurveyParts}
use Rattle.edit_model.specs.Points.{Point}
use Rattle.edit_model.specs.declared.value.Value.{Value}
use Rattle.pruned_rules.specs.Pruned.{kept_edits}
use Rattle.bound_cert.specs.declared.outcome.GiftFault.{GiftFault}
use Rattle.bound_cert.specs.declared.outcome.Outcome.{Outcome}
use Rattle.bound_cert.specs.declared.outcome.Outcome.TheVariants.{Budget, Change, Contradictory, Overflow}
use Rattle.edit_paths.specs.Cases.{case_of}
use Rattle.edit_paths.specs.Outcomes.{outcome_of}
use Rattle.back_subst.specs.declared.gift.Gift.{Gift}
use Rattle.edit_report.specs.Ends.{path_found}
use Rattle.edit_report.specs.declared.end.RowEnd.{RowEnd}
use Rattle.donor_search.specs.CleanRows.{row_at}
use Rattle.record_ends.specs.Ends.{ComesOf, IsEndOf, StopsGiving}
use Rattle.record_ends.specs.Said.{OutcomeSays, Says}
use Rattle.edit_release.specs.Releases.{AllGiven}
use Rattle.edit_command.specs.Edits.{IsStatusOf}
use Rattle.edit_command.specs.Laws.{WholeLaw}
use Rattle.edit_command.specs.Reach.{IsInReach}
use Rattle.run_parts.specs.declared.status.Status.{Status}
use Rattle.run_parts.specs.declared.status.Status.TheVariants.{Done}

module _ (survey : SurveyParts) (budget : ℕ) (all : List (List Value)) (p : Point) (correction : IsCorrection survey p) where
  given : (row : List Value) (end : RowEnd) → IsInReach survey budget all row end → (o : Outcome) → end.proof.outcome ≡ o
      → (stop : Option GiftFault) (gift : Option Gift) → o ≡ outcome_of (case_of survey (kept_edits survey) row) budget
      → ComesOf survey (kept_edits survey) row (option_map (row_at all) end.donor) o stop gift → OutcomeSays survey (kept_edits survey) budget row o gift
      → IsSome gift
  given row end reach o is stop (Some gift) e follows says = refl
  given row end reach (Change path weight cert) is None None e follows says = absurd follows
  given row end reach (Change path weight cert) is (Some stop) None e follows says =
      absurd (reach.values_fit stop (subst (λ (q : List Bool). StopsGiving survey (kept_edits survey) row q (option_map (row_at all) end.donor) stop)
      (sym (ap path_found is)) follows))
  given row end reach (Budget path work) is stop None e follows says = let enough = reach.enough in absurd (omega (arith, says, enough))
  given row end reach (Overflow path event) is stop None e follows says = absurd (reach.search_fits path event (sym e))
  given row end reach (Contradictory cert) is stop None e follows says = absurd (says p correction)

  all-given : (rows : List (List Value)) (ends : List RowEnd) → AllZip (IsInReach survey budget all) rows ends
      → AllZip (IsEndOf survey (kept_edits survey) budget all) rows ends → AllZip (Says survey (kept_edits survey) budget) rows ends → AllGiven ends
  all-given [] [] reach each say = tt
  all-given [] (end ∷ ends) reach each say = absurd each
  all-given (row ∷ rows) [] reach each say = absurd each
  all-given (row ∷ rows) (end ∷ ends) reach each say =
      (given row end reach.0 end.proof.outcome refl end.proof.gift end.gift each.0.outcome each.0.follows say.0, all-given rows ends reach.1 each.1 say.1)

by-status : (ends : List RowEnd) (answer : Status) → IsStatusOf ends answer → AllGiven ends → answer ≡ Done
by-status ends answer (inl (done, all)) given = done
by-status ends answer (inr (some, not)) given = absurd (not given)

pub whole-released : WholeLaw
whole-released survey s terms workers answer written edit p correction reach =
    by-status edit.ends answer edit.ended
    (all-given survey terms.budget s.rows p correction s.rows edit.ends reach edit.edit.each
    (edit-says survey s terms edit.ends edit.history written edit.edit))
