-- The files of an edit are a valid release.
use Rattle.std.proofs.Common.{◌≡◌, ◌<◌, ◌∙◌, sym, ap, refl, ℕ, ◌==◌, true, List, [], ◌∷◌, length, map, All, IfSome, IsSome, IsTrue, ◌↔◌, Option, Some, None}
use Rattle.std.proofs.Common.{inl, subst, option_map}
use Rattle.std.specs.Prelude.{is_some}
use Rattle.std.specs.List.{AllByRecursion, AllZip}
use Rattle.std.proofs.lemmas.Bool.{le-leb}
use Rattle.std.proofs.lemmas.Bool.Decides.{Decides-eqb}
use Rattle.std.proofs.lemmas.List.{length-map}
use Rattle.std.proofs.lemmas.Slice.Zip.{AllZip-long}
use Rattle.edit_model.specs.Parts.{SurveyParts}
use Rattle.edit_model.specs.Rows.{IsRow}
use Rattle.edit_model.specs.Surveys.{IsWellFormed}
use Rattle.edit_model.specs.declared.value.Value.{Value}
use Rattle.edit_normal.specs.RuleLines.{normal_lines_of}
use Rattle.bound_cert.specs.declared.outcome.GiftFault.{GiftFault}
use Rattle.edit_paths.specs.Cases.{case_of}
use Rattle.edit_paths.specs.Outcomes.{outcome_of}
use Rattle.bound_cert.specs.declared.outcome.Outcome.{Outcome}
use Rattle.bound_cert.specs.declared.outcome.Outcome.TheVariants.{Budget, Change, Contradictory, Overflow}
use Rattle.back_subst.specs.declared.gift.Gift.{Gift}
use Rattle.record_text.specs.Sheets.{IsSheet, SheetParts}
use Rattle.record_text.specs.Values.{AreValues}
use Rattle.record_text.proofs.SheetLaws.{columns_in_header, distinct_columns, one_column_a_field, row_texts_as_long_as_header, rows_are_records}
use Rattle.record_text.proofs.ValueLaws.{values_are_row}
use Rattle.proof_grammar.specs.Limits.{IsPlain}
use Rattle.proof_grammar.specs.ProofLines.{proof_text}
use Rattle.proof_grammar.specs.declared.proof.Proof.{Proof}
use Rattle.proof_sharing.specs.SharedProofs.{shared_proof}
use Rattle.proof_grammar.specs.Sizes.{IsCoherent, IsCoherentRow, IsSized}
use Rattle.proof_sharing.proofs.SharedCoherence.{coherent-shared}
use Rattle.proof_grammar.proofs.SizeLaws.{plain-if}
use Rattle.edit_report.specs.Ends.{path_found}
use Rattle.edit_report.specs.Reasons.{reasons_text_of}
use Rattle.edit_report.specs.Released.{released_rows, released_text_of}
use Rattle.edit_report.specs.Summaries.{summary_lines}
use Rattle.edit_report.specs.declared.end.RowEnd.{RowEnd}
use Rattle.record_ends.specs.Ends.{ComesOf, IsEndOf}
use Rattle.record_ends.specs.Said.{Says}
use Rattle.cert_check.specs.Releases.{Audit, IsValidRelease, audit_of, head_fault, is_released, limits_fit}
use Rattle.cert_check.specs.RowChecks.{AreReleasedTexts, RowFiles, RowRules}
use Rattle.cert_check.proofs.SharedReleaseLaws.{own_rules, stays-valid}
use Rattle.redundancy.specs.declared.verdict.Verdict.{Verdict}
use Rattle.pruned_rules.specs.Pruned.{kept_edits, rule_flags, rule_verdicts}
use Rattle.pruned_rules.proofs.KeptLaws.{rules-follow}
use Rattle.edit_release.specs.Edits.{proof_of, proof_telling, said, written_proof}
use Rattle.edit_release.specs.Guarantee.{HasTree, HasValuesOrStop, IsGuaranteed, IsGuaranteedEnd, IsMet}
use Rattle.edit_release.specs.Releases.{AllGiven, HasGuarantee, IsReleaseOf, written_in}
use Rattle.edit_release.specs.declared.release.Release.{Release}
use Rattle.edit_release.proofs.CoherentLaws.{clean-leaves, said-coherent}
use Rattle.edit_release.proofs.DroppedLaws.{none-faulty, verdicts-coherent}
use Rattle.edit_release.proofs.ReleasedLaws.{IsSaidReleased, are-released, end-said, ends-said}
use Rattle.edit_release.proofs.RowsLaws.{IsValidEnd, each-follows, end-released, own_files, rows-valid}
use Rattle.edit_release.proofs.SaidLaws.{IsReleasedSaid, flags-said, rules-are, said-valid, tree-shown}
use Rattle.edit_release.proofs.TreeLaws.{has-trees, lines-many}
use Rattle.donor_search.specs.CleanRows.{row_at}
use Rattle.record_editing.specs.declared.terms.Terms.{Terms}
use Rattle.donor_book.specs.declared.claim.Entry.{Entry}
use Rattle.record_editing.specs.Donations.{AreDonations, AreInOrder, AreTerms}
use Rattle.edit_release.proofs.ClaimLaws.{claims-valid}

-- ---- the head of the proof

counts-agree : (m n : ℕ) → m ≡ n → (m == n) ≡ true
counts-agree m n e = (Decides-eqb m n).1 e

module _ (survey : SurveyParts) (sheet : SheetParts) (released proof : List ℕ) (terms : Terms) (ends : List RowEnd) (history : List Entry)
    (fit : AreTerms terms) (many : length ends ≡ length sheet.rows) where
  abbrev a : Audit
  a = audit_of survey sheet released proof

  abbrev p : Proof
  p = proof_of survey terms ends history

  limits-fit : limits_fit p ≡ true
  limits-fit = rw (
    le-leb 1 terms.limit fit.limit.0,
    le-leb terms.limit 1000 fit.limit.1,
    le-leb 1 terms.near fit.near.0,
    le-leb terms.near 64 fit.near.1,
    le-leb 1 terms.budget fit.budget.0,
    le-leb terms.budget 1000000000 fit.budget.1,
  ) refl

  verdicts-many : (length p.verdicts == length (normal_lines_of survey)) ≡ true
  verdicts-many = counts-agree _ _ (lines-many survey terms ends history)

  rows-many : (length p.rows == length sheet.rows) ≡ true
  rows-many = counts-agree _ _ (length-map ends said ∙ many)

  head-fits : head_fault a p ≡ None
  head-fits = rw (limits-fit, verdicts-many, rows-many) refl

-- ---- what is said of each record

module _ (survey : SurveyParts) (formed : IsWellFormed survey) (budget : ℕ) (all : List (List Value)) where
  -- the trees of all records are valid
  pub all-shown : (rows : List (List Value)) (ends : List RowEnd) → AllByRecursion (IsRow survey.fields) rows
      → AllZip (IsEndOf survey (kept_edits survey) budget all) rows ends
      → AllZip (λ row (end : RowEnd). HasTree survey (normal_lines_of survey) (rule_flags survey) row end.proof.outcome) rows ends
  all-shown [] [] are each = tt
  all-shown [] (end ∷ ends) are each = absurd each
  all-shown (row ∷ rows) [] are each = absurd each
  all-shown (row ∷ rows) (end ∷ ends) are each = (tree-shown survey row budget formed are.0 all end each.0, all-shown rows ends are.1 each.1)

  -- what is said of all records is coherent
  all-coherent : (rows : List (List Value)) (ends : List RowEnd) → AllByRecursion (IsRow survey.fields) rows
      → AllZip (IsEndOf survey (kept_edits survey) budget all) rows ends → AllByRecursion IsCoherentRow (map said ends)
  all-coherent [] [] are each = tt
  all-coherent [] (end ∷ ends) are each = absurd each
  all-coherent (row ∷ rows) [] are each = absurd each
  all-coherent (row ∷ rows) (end ∷ ends) are each = (said-coherent survey row budget formed are.0 all end each.0, all-coherent rows ends are.1 each.1)

  -- the proof is coherent
  pub proof-coherent : (terms : Terms) (history : List Entry) (rows : List (List Value)) (ends : List RowEnd) → AllByRecursion (IsRow survey.fields) rows
      → AllZip (IsEndOf survey (kept_edits survey) budget all) rows ends → IsCoherent (proof_of survey terms ends history)
  proof-coherent terms history rows ends are each = record {
    version = inl refl;
    table = refl;
    verdicts = verdicts-coherent survey formed;
    rows =
        all-coherent rows ends are each;
  }

-- ---- what is guaranteed of each record

module _ (survey : SurveyParts) (formed : IsWellFormed survey) (budget : ℕ) (all : List (List Value)) where
  -- it has values exactly where it is a change whose giving did not stop
  values-or-stop : (row : List Value) (donor : Option (List Value)) (o : Outcome) (stop : Option GiftFault) (gift : Option Gift)
      → ComesOf survey (kept_edits survey) row donor o stop gift → HasValuesOrStop o stop gift
  values-or-stop row donor (Change path weight cert) None None follows = follows
  values-or-stop row donor (Change path weight cert) None (Some gift) follows = tt
  values-or-stop row donor (Change path weight cert) (Some stop) None follows = tt
  values-or-stop row donor (Change path weight cert) (Some stop) (Some gift) follows = follows
  values-or-stop row donor (Budget path work) None None follows = tt
  values-or-stop row donor (Budget path work) None (Some gift) follows = follows
  values-or-stop row donor (Budget path work) (Some stop) gift follows = follows
  values-or-stop row donor (Overflow path event) None None follows = tt
  values-or-stop row donor (Overflow path event) None (Some gift) follows = follows
  values-or-stop row donor (Overflow path event) (Some stop) gift follows = follows
  values-or-stop row donor (Contradictory cert) None None follows = tt
  values-or-stop row donor (Contradictory cert) None (Some gift) follows = follows
  values-or-stop row donor (Contradictory cert) (Some stop) gift follows = follows

  -- its values are a record of the survey
  values-fit : (row : List Value) (donor : Option (List Value)) (o : Outcome) (stop : Option GiftFault) (gift : Option Gift)
      → ComesOf survey (kept_edits survey) row donor o stop gift → IfSome gift (λ (g : Gift). IsRow survey.fields g.row)
  values-fit row donor o stop None follows = tt
  values-fit row donor (Change path weight cert) None (Some gift) follows = follows.imputed.fits
  values-fit row donor (Change path weight cert) (Some stop) (Some gift) follows = absurd follows
  values-fit row donor (Budget path work) None (Some gift) follows = absurd follows
  values-fit row donor (Budget path work) (Some stop) (Some gift) follows = absurd follows
  values-fit row donor (Overflow path event) None (Some gift) follows = absurd follows
  values-fit row donor (Overflow path event) (Some stop) (Some gift) follows = absurd follows
  values-fit row donor (Contradictory cert) None (Some gift) follows = absurd follows
  values-fit row donor (Contradictory cert) (Some stop) (Some gift) follows = absurd follows

  -- a number out of range is the first that its search meets
  first-met : (row : List Value) (o : Outcome) → outcome_of (case_of survey (kept_edits survey) row) budget ≡ o → IsMet survey (kept_edits survey) budget row o
  first-met row (Change path weight cert) e = tt
  first-met row (Budget path work) e = tt
  first-met row (Overflow path event) e = e
  first-met row (Contradictory cert) e = tt

  end-guaranteed : (row : List Value) (end : RowEnd) → IsRow survey.fields row → IsEndOf survey (kept_edits survey) budget all row end
      → Says survey (kept_edits survey) budget row end → IsGuaranteedEnd survey (rule_flags survey) budget row end
  end-guaranteed row end is ends says = record {
    ends = values-or-stop row (option_map (row_at all) end.donor) end.proof.outcome end.proof.gift end.gift ends.follows;
    fits = values-fit row (option_map (row_at all) end.donor) end.proof.outcome end.proof.gift end.gift ends.follows;
    says = says;
    met = first-met row end.proof.outcome (sym ends.outcome);
    shown = tree-shown survey row budget formed is all end ends;
  }

  pub all-guaranteed : (rows : List (List Value)) (ends : List RowEnd) → AllByRecursion (IsRow survey.fields) rows
      → AllZip (IsEndOf survey (kept_edits survey) budget all) rows ends → AllZip (Says survey (kept_edits survey) budget) rows ends
      → AllZip (IsGuaranteedEnd survey (rule_flags survey) budget) rows ends
  all-guaranteed [] [] are each say = tt
  all-guaranteed [] (end ∷ ends) are each say = absurd each
  all-guaranteed (row ∷ rows) [] are each say = absurd each
  all-guaranteed (row ∷ rows) (end ∷ ends) are each say = (end-guaranteed row end are.0 each.0 say.0, all-guaranteed rows ends are.1 each.1 say.1)

-- texts are released of a record that is told to be released
released-told : (r : RowRules) (f : RowFiles) (o : Outcome) (stop : Option GiftFault) (gift : Option Gift) → is_released (record { outcome = o; gift = stop })
    ≡ is_some gift → (IsSome gift → AreReleasedTexts r f (path_found o)) → IsReleasedSaid r f o stop
released-told r f (Change path weight cert) None None told released = absurd (cc told)
released-told r f (Change path weight cert) None (Some gift) told released = released refl
released-told r f (Change path weight cert) (Some stop) gift told released = tt
released-told r f (Budget path work) stop gift told released = tt
released-told r f (Overflow path event) stop gift told released = tt
released-told r f (Contradictory cert) stop gift told released = tt

-- ---- the proof that is written

-- its lines are shared after it was made of the verdicts, the terms, the ends and the claims
pub told-written : (survey : SurveyParts) (terms : Terms) (ends : List RowEnd) (history : List Entry) (verdicts : List Verdict)
    → verdicts ≡ rule_verdicts survey → shared_proof (proof_telling verdicts terms ends history) ≡ written_proof survey terms ends history
told-written survey terms ends history verdicts are = ap (λ (vs : List Verdict). shared_proof (proof_telling vs terms ends history)) are

-- ---- the release

module _ (survey : SurveyParts) (sheet : SheetParts) (bytes : List ℕ) (terms : Terms) (ends : List RowEnd) (history : List Entry) (formed : IsWellFormed survey)
    (read : IsSheet survey.fields bytes sheet) (fit : AreTerms terms)
    (each : AllZip (IsEndOf survey (kept_edits survey) terms.budget sheet.rows) sheet.rows ends)
    (say : AllZip (Says survey (kept_edits survey) terms.budget) sheet.rows ends)
    (donations : AreDonations survey sheet.rows terms ends history) where
  abbrev audit : Audit
  audit = audit_of survey sheet (released_text_of survey sheet ends) (proof_text (written_proof survey terms ends history))

  -- each row is a record of the survey
  abbrev are : AllByRecursion (IsRow survey.fields) sheet.rows
  are = rows_are_records survey.fields bytes sheet read

  abbrev r : RowRules
  r = own_rules audit (proof_of survey terms ends history)

  row-valid : (reads : List (List ℕ)) (row : List Value) (end : RowEnd) → AreValues survey.fields sheet.columns reads row → length reads ≡ length sheet.header
      → IsEndOf survey (kept_edits survey) terms.budget sheet.rows row end
      → Says survey (kept_edits survey) terms.budget row end → IsValidEnd r survey.fields sheet.columns reads row end
  row-valid reads row end values long is says = (
    told,
    said-valid survey row terms.budget formed is_row r (own_files survey.fields sheet.columns reads row end) sheet.rows end
        (rules-are survey sheet audit.released audit.proof terms ends history) refl is
        (released-told r (own_files survey.fields sheet.columns reads row end) (said end).outcome (said end).gift end.gift told
        (end-released r (kept_edits survey) terms.budget reads row formed is_row (one_column_a_field survey.fields bytes sheet read)
        (distinct_columns survey.fields bytes sheet read formed.names) within (option_map (row_at sheet.rows) end.donor) end.proof.outcome end.proof.gift
        end.gift is.follows says)),
  )
    where
      is_row : IsRow survey.fields row
      is_row = values_are_row survey.fields sheet.columns reads row values

      told : IsSaidReleased end
      told = end-said survey (kept_edits survey) terms.budget sheet.rows row end is

      within : All (λ (c : ℕ). c < length reads) sheet.columns
      within = subst (λ (n : ℕ). All (λ (c : ℕ). c < n) sheet.columns) (sym long) (columns_in_header survey.fields bytes sheet read)

  abbrev coherent : IsCoherent (proof_of survey terms ends history)
  coherent = proof-coherent survey formed terms.budget sheet.rows terms history sheet.rows ends are each

  -- the trees of all ends, each of which derives its own lines
  abbrev shown : AllZip (λ row (end : RowEnd). HasTree survey (normal_lines_of survey) (rule_flags survey) row end.proof.outcome) sheet.rows ends
  shown = all-shown survey formed terms.budget sheet.rows sheet.rows ends are each

  pub release-valid : IsPlain (written_proof survey terms ends history) → IsValidRelease audit
  release-valid plain =
      stays-valid audit (proof_of survey terms ends history) plain
      (clean-leaves (map said ends) coherent.rows)
      (head-fits survey sheet audit.released audit.proof terms ends history fit (AllZip-long (IsEndOf survey (kept_edits survey) terms.budget sheet.rows)
      sheet.rows ends each))
      (none-faulty survey formed terms ends history)
      (released_rows survey.fields sheet.columns sheet.row_texts ends)
      (are-released survey bytes sheet terms ends history audit.proof read each (ends-said survey (kept_edits survey) terms.budget sheet.rows sheet.rows ends
      each))
      (rows-valid r survey.fields sheet.columns sheet.row_texts sheet.rows ends
      (each-follows (IsValidEnd r survey.fields sheet.columns) survey (kept_edits survey) sheet.columns (length sheet.header) terms.budget sheet.rows
      sheet.row_texts sheet.rows ends read.values (row_texts_as_long_as_header survey.fields bytes sheet read) each say row-valid))
      (claims-valid survey terms sheet.rows ends history donations)

  -- what is guaranteed of them
  abbrev guaranteed-of : IsGuaranteed survey sheet terms ends history
  guaranteed-of = record {
    kept = rule_flags survey;
    follow = rules-follow survey formed;
    each = all-guaranteed survey formed terms.budget sheet.rows sheet.rows ends are each say;
    legal = donations.legal;
  }

  -- the proof that is written has one spelling
  written-plain : IsSized (written_proof survey terms ends history) → IsPlain (written_proof survey terms ends history)
  written-plain sized = plain-if (written_proof survey terms ends history) sized (coherent-shared (proof_of survey terms ends history) coherent)

  -- what was written tells of it
  pub guarantee-of : (release : Release) → IsSized (written_proof survey terms ends history)
      → release.proof.items ≡ proof_text (written_proof survey terms ends history) → release.released.items ≡ released_text_of survey sheet ends
      → HasGuarantee survey sheet terms release
  guarantee-of release sized proof released = record {
    ends = ends;
    history = history;
    guaranteed = guaranteed-of;
    released = released;
    told = written_proof survey terms ends history;
    proof = proof;
    tells = record {
      plain = written-plain sized;
      limit = refl;
      near = refl;
      budget = refl;
      kept = flags-said (rule_verdicts survey);
      refuted = none-faulty survey formed terms ends history;
      rows = refl;
      trees = has-trees survey terms ends history sheet.rows shown;
      claims = refl;
    };
  }

  -- and is the edit of the sheet
  pub release-of : (release : Release) → IsSized (written_proof survey terms ends history)
      → release.proof.items ≡ proof_text (written_proof survey terms ends history)
      → release.reasons.items ≡ reasons_text_of survey sheet ends → release.released.items ≡ released_text_of survey sheet ends
      → (written_in release).summary ≡ summary_lines survey ends history → (workers : ℕ)
      → (workers ≡ 1 → AreInOrder survey sheet.rows terms.class_field ends history) → (IsTrue release.whole ↔ AllGiven ends)
      → IsReleaseOf survey sheet terms workers release
  release-of release sized proof reasons released summary workers order whole = record {
    ends = ends;
    history = history;
    order = order;
    edit = record {
      guaranteed = guaranteed-of;
      kept = refl;
      each = each;
      donations = donations;
      proof = proof;
      reasons = reasons;
      released = released;
      summary = summary;
      trees = has-trees survey terms ends history sheet.rows shown;
      valid = subst (λ (given : List ℕ). IsValidRelease (audit_of survey sheet given release.proof.items)) (sym released)
          (subst (λ (told : List ℕ). IsValidRelease (audit_of survey sheet (released_text_of survey sheet ends) told)) (sym proof)
          (release-valid (written-plain sized)));
    };
    whole = whole;
  }
