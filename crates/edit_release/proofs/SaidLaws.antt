use Rattle.std.proofs.Common.{◌≡◌, ℕ, zero, suc, Bool, true, false, List, [], ◌∷◌, map, is_none, Option, Some, None, refl, sym, ap, subst, option_map}
use Rattle.edit_model.specs.Parts.{SurveyParts}
use Rattle.edit_model.specs.Rows.{IsRow}
use Rattle.edit_model.specs.Surveys.{IsWellFormed}
use Rattle.edit_model.specs.declared.value.Value.{Value}
use Rattle.edit_normal.specs.RuleLines.{normal_lines_of}
use Rattle.bound_cert.specs.declared.cert.Cert.{Cert}
use Rattle.bound_cert.specs.declared.outcome.GiftFault.{GiftFault}
use Rattle.bound_cert.specs.declared.outcome.Outcome.{Outcome}
use Rattle.bound_cert.specs.declared.outcome.Outcome.TheVariants as outcome
use Rattle.bound_cert.specs.declared.outcome.RowProof.{RowProof}
use Rattle.edit_paths.specs.Cases.{case_of}
use Rattle.edit_paths.specs.Outcomes.{outcome_of}
use Rattle.edit_paths.proofs.CertificateTrees.{change-tree, contradiction-tree}
use Rattle.back_subst.specs.declared.gift.Gift.{Gift}
use Rattle.record_text.specs.Sheets.{SheetParts}
use Rattle.edit_report.specs.declared.end.RowEnd.{RowEnd}
use Rattle.record_ends.specs.Ends.{ComesOf, IsEndOf}
use Rattle.cert_check.specs.Releases.{audit_of}
use Rattle.cert_check.specs.RowChecks.{AreReleasedTexts, IsValidGift, IsValidRow, RowFiles, RowRules}
use Rattle.cert_check.proofs.SharedReleaseLaws.{own_rules}
use Rattle.redundancy.specs.Verdicts.{keeps_line}
use Rattle.redundancy.specs.declared.verdict.Verdict.{Verdict}
use Rattle.redundancy.specs.declared.verdict.Verdict.TheVariants.{Dropped, Kept}
use Rattle.pruned_rules.specs.Pruned.{kept_edits, rule_flags, rule_verdicts}
use Rattle.edit_release.specs.Edits.{proof_of, refutation_by, said, said_of}
use Rattle.edit_release.specs.Guarantee.{HasTree}
use Rattle.edit_release.proofs.CaseLaws.{rule-case, rules-given}
use Rattle.edit_release.proofs.EventLaws.{event-there}
use Rattle.edit_release.proofs.GiftFaults.{stop-there}
use Rattle.edit_release.proofs.OutcomeLaws.{change-is, work-within}
use Rattle.donor_search.specs.CleanRows.{row_at}
use Rattle.record_editing.specs.declared.terms.Terms.{Terms}
use Rattle.donor_book.specs.declared.claim.Entry.{Entry}

-- What the proof of an edit says of a record is right.

-- by what the records of an edit are checked, whatever the columns are
abbrev pub edit_rules : SurveyParts → List ℕ → ℕ → RowRules
edit_rules survey columns budget = record { survey = survey; given = normal_lines_of survey; usable = rule_flags survey; columns = columns; budget = budget }

-- what the proof says of each line tells whether it is kept
pub flags-said : (verdicts : List Verdict) → map is_none (map refutation_by verdicts) ≡ map keeps_line verdicts
flags-said [] = refl
flags-said (Kept why ∷ verdicts) = ap (λ (kept : List Bool). true ∷ kept) (flags-said verdicts)
flags-said (Dropped steps ∷ verdicts) = ap (λ (kept : List Bool). false ∷ kept) (flags-said verdicts)

-- the checks of its proof are made by them, where the records share no lines
pub rules-are : (survey : SurveyParts) (sheet : SheetParts) (released proof : List ℕ) (terms : Terms) (ends : List RowEnd) (history : List Entry)
    → own_rules (audit_of survey sheet released proof) (proof_of survey terms ends history) ≡ edit_rules survey sheet.columns terms.budget
rules-are survey sheet released proof terms ends history =
    ap (λ (usable : List Bool). record { survey = survey; given = normal_lines_of survey; usable = usable; columns = sheet.columns; budget = terms.budget })
    (flags-said (rule_verdicts survey))

-- texts are released for a record that is changed and was given values
abbrev pub IsReleasedSaid : RowRules → RowFiles → Outcome → Option GiftFault → Type 0
IsReleasedSaid r f (outcome.Change path weight cert) None = AreReleasedTexts r f path
IsReleasedSaid r f o stop = Unit {0}

module _ (survey : SurveyParts) (row : List Value) (budget : ℕ) (formed : IsWellFormed survey) (is : IsRow survey.fields row) where
  -- the tree of an outcome is valid
  pub has-tree : (o : Outcome) → outcome_of (case_of survey (kept_edits survey) row) budget ≡ o
      → HasTree survey (normal_lines_of survey) (rule_flags survey) row o
  has-tree (outcome.Change path weight cert) e = change-tree (case_of survey (kept_edits survey) row) (rule-case survey row formed is) (normal_lines_of survey)
      (rule_flags survey) (rules-given survey) budget path weight cert e
  has-tree (outcome.Budget path work) e = tt
  has-tree (outcome.Overflow path event) e = tt
  has-tree (outcome.Contradictory cert) e = contradiction-tree (case_of survey (kept_edits survey) row) (rule-case survey row formed is)
      (normal_lines_of survey) (rule_flags survey) (rules-given survey) budget cert e

  pub tree-shown : (all : List (List Value)) (end : RowEnd) → IsEndOf survey (kept_edits survey) budget all row end
      → HasTree survey (normal_lines_of survey) (rule_flags survey) row end.proof.outcome
  tree-shown all end ends = has-tree end.proof.outcome (sym ends.outcome)

  module _ (columns : List ℕ) (reads : List (List ℕ)) (texts : Option (List (List ℕ))) where
    abbrev r : RowRules
    r = edit_rules survey columns budget

    abbrev f : RowFiles
    f = record { reads = reads; row = row; texts = texts }

    -- what is said of a record, if it is released as that says, is right
    abbrev IsRight : RowProof → Type 0
    IsRight said = IsReleasedSaid r f said.outcome said.gift → IsValidRow r f said

    stopped : (donor : Option (List Value)) (path : List Bool) (weight : ℕ) (cert : Cert) (stop : GiftFault) (gift : Option Gift)
        → outcome_of (case_of survey (kept_edits survey) row) budget ≡ outcome.Change path weight cert
        → ComesOf survey (kept_edits survey) row donor (outcome.Change path weight cert) (Some stop) gift → IsValidGift r f path weight cert.leaves stop
    stopped donor path weight cert stop None e follows = (
      (change-is (case_of survey (kept_edits survey) row) budget path weight cert e, has-tree _ e),
      stop-there survey (kept_edits survey) row follows.changed
          donor stop follows.stops,
    )
    stopped donor path weight cert stop (Some gift) e follows = absurd follows

    right-said : (donor : Option (List Value)) (o : Outcome) (stop : Option GiftFault) (gift : Option Gift)
        → outcome_of (case_of survey (kept_edits survey) row) budget ≡ o → ComesOf survey (kept_edits survey) row donor o stop gift → IsRight (said_of o stop)
    right-said donor (outcome.Change path zero cert) None gift e follows released = released
    right-said donor (outcome.Change path (suc w) cert) None gift e follows released =
        ((change-is (case_of survey (kept_edits survey) row) budget path (suc w) cert e, has-tree _ e), released)
    right-said donor (outcome.Change path zero cert) (Some stop) gift e follows released = stopped donor path zero cert stop gift e follows
    right-said donor (outcome.Change path (suc w) cert) (Some stop) gift e follows released = stopped donor path (suc w) cert stop gift e follows
    right-said donor (outcome.Budget path work) stop gift e follows released = work-within (case_of survey (kept_edits survey) row) budget path work e
    right-said donor (outcome.Overflow path event) stop gift e follows released = event-there (case_of survey (kept_edits survey) row)
        (rule-case survey row formed is) budget path event e
    right-said donor (outcome.Contradictory cert) stop gift e follows released = has-tree _ e

  -- the proof of an edit is right of a record
  pub said-valid : (r : RowRules) (f : RowFiles) (all : List (List Value)) (end : RowEnd) → r ≡ edit_rules survey r.columns budget → f.row ≡ row
      → IsEndOf survey (kept_edits survey) budget all row end
      → IsReleasedSaid r f (said end).outcome (said end).gift → IsValidRow r f (said end)
  said-valid r f all end rules_are row_is ends =
      subst (λ (s : RowRules). IsReleasedSaid s f (said end).outcome (said end).gift → IsValidRow s f (said end)) (sym rules_are)
      (subst (λ (read : List Value). (let g : RowFiles = record { reads = f.reads; row = read; texts = f.texts } in
      IsReleasedSaid (edit_rules survey r.columns budget) g (said end).outcome (said end).gift
      → IsValidRow (edit_rules survey r.columns budget) g (said end))) (sym row_is)
      (right-said r.columns f.reads f.texts (option_map (row_at all) end.donor) end.proof.outcome end.proof.gift end.gift (sym ends.outcome) ends.follows))
