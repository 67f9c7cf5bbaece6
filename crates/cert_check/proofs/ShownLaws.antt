use Rattle.std.proofs.Common.{◌≡◌, ℕ, zero, suc, ◌≤◌, Bool, true, List, [], ◌∷◌, ◌++◌, ◌⊎◌, inl, inr, Option, Some, None, IsSomeAnd, is_none, length, map, ap}
use Rattle.std.proofs.Common.{◌∙◌, arith}
use Rattle.std.proofs.lemmas.List.{length-map}
use Rattle.std.specs.List.{AllByRecursion}
use Rattle.std.proofs.lemmas.Bool.Decides.{Decides-eqb}
use Rattle.edit_model.specs.Corrections.{IsCorrection, change_weight}
use Rattle.edit_model.specs.Points.{Point}
use Rattle.edit_model.specs.Rows.{IsRow}
use Rattle.edit_model.specs.Surveys.{IsWellFormed}
use Rattle.edit_model.specs.declared.value.Value.{Value}
use Rattle.edit_model.proofs.RowPointLaws.{point_of}
use Rattle.edit_line.specs.Lines.{AreOver, LineParts}
use Rattle.edit_line.specs.Lines as lines
use Rattle.edit_line.proofs.BoolLaws.{both_true}
use Rattle.edit_line.proofs.Members.{all-in, in-all}
use Rattle.edit_normal.specs.RuleLines.{normal_lines_of}
use Rattle.edit_normal.proofs.MeaningLaws.{lines-mean}
use Rattle.edit_normal.proofs.NormalLines.{normal-over}
use Rattle.edit_line.specs.Reductions.{IsIn}
use Rattle.edit_line.specs.Shapes.{shape_of}
use Rattle.derivation.specs.LineLists.{AllFollowFrom, no_record}
use Rattle.derivation.specs.Premises.{usable_lines}
use Rattle.derivation.proofs.LineListLaws.{table-follows}
use Rattle.derivation.proofs.RefutationLaws.{usable-among}
use Rattle.donor_book.proofs.LegalLaws.{uses_within}
use Rattle.record_text.specs.Sheets.{IsSheet, text_at}
use Rattle.record_text.proofs.SheetLaws.{rows_are_records}
use Rattle.bound_cert.specs.Paths.{changes, path_weight}
use Rattle.bound_cert.specs.ValidTrees.{IsValidTree}
use Rattle.bound_cert.specs.declared.cert.Leaf.{Leaf}
use Rattle.bound_cert.specs.declared.outcome.GiftFault.{GiftFault}
use Rattle.bound_cert.specs.declared.outcome.Outcome.{Outcome}
use Rattle.bound_cert.specs.declared.outcome.Outcome.TheVariants.{Budget, Change, Contradictory, Overflow}
use Rattle.bound_cert.specs.declared.outcome.RowProof.{RowProof}
use Rattle.bound_cert.proofs.CertLaws.{tree-shows}
use Rattle.proof_grammar.specs.Limits.{IsChange, IsOutcome, IsRowProof}
use Rattle.proof_grammar.specs.declared.proof.Proof.{Proof}
use Rattle.cert_check.specs.Dropped.{kept_flags}
use Rattle.cert_check.specs.Released.{IsReleasedAs}
use Rattle.cert_check.specs.Releases.{AreValidRows, Audit, Fits, IsValidRelease, behind, files_of, rules_of}
use Rattle.cert_check.specs.RowChecks.{AreReleasedTexts, IsValidChange, IsValidSaid, RowFiles, fits_change, tree_of}
use Rattle.cert_check.specs.Shown.{IsLeastRelease, ShowAll, Shows, ShowsSaid}
use Rattle.cert_check.specs.Tables.{shared_lines}
use Rattle.cert_check.proofs.AuditLaws.{counts-fit}
use Rattle.cert_check.proofs.TableLaws.{over-both, table-lines, usable-with}
use Rattle.cert_check.proofs.DroppedLaws.{rules-follow}
use Rattle.cert_check.proofs.NewRowLaws.{differing-weighs, empty-weighs, row-differs, values-row, clean-agrees, clean-corrects}

-- What a valid release shows, whoever wrote it.

-- what holds of the texts that are released, if some are
some-then : {X : Type 0} (o : Option X) (P Q : X → Type 0) → ((x : X) → P x → Q x) → IsSomeAnd o P → IsSomeAnd o Q
some-then None P Q then none = absurd none
some-then (Some x) P Q then is = then x is

module _ (a : Audit) (p : Proof) (well : IsWellFormed a.survey) (fits : Fits a p) (f : RowFiles) (are : IsRow a.survey.fields f.row) where
  -- no correction is lighter than a valid tree says
  none-lighter : (weight : Option ℕ) (leaves : List Leaf) → IsValidTree (tree_of (rules_of a p) f weight) leaves → (q : Point) → IsCorrection a.survey q
      → IsSomeAnd weight (λ w. w ≤ change_weight a.survey f.row q)
  none-lighter weight leaves valid q correction =
      tree-shows (tree_of (rules_of a p) f weight) are (over-both (shape_of a.survey.fields) rules shared (normal-over a.survey) known.1) leaves valid q
      correction.codes
      (all-in (λ l. lines.LineHolds l q) (usable_lines (rules ++ shared) (kept_flags p ++ map (λ l. true) shared))
      (λ l there. either l (usable-with rules (kept_flags p) shared l even there)))
    where
      rules : List LineParts
      rules = normal_lines_of a.survey

      shared : List LineParts
      shared = shared_lines a.survey p

      even : length rules ≡ length (kept_flags p)
      even = omega (arith, (counts-fit a p fits.head).0, length-map p.verdicts is_none)

      known : AllFollowFrom (no_record a.survey rules (kept_flags p)) shared × AreOver (shape_of a.survey.fields) shared
      known = table-follows (no_record a.survey rules (kept_flags p)) p.table shared (normal-over a.survey) (table-lines a.survey p fits.table)

      -- the lines of the rules that are kept hold
      kept-holds : (l : LineParts) → IsIn l (usable_lines rules (kept_flags p)) → lines.LineHolds l q
      kept-holds l there = in-all (λ l. lines.LineHolds l q) l rules ((lines-mean a.survey q well correction.codes).1 correction.rules)
          (usable-among rules (kept_flags p) l there)

      -- and so do those that follow from them
      either : (l : LineParts) → IsIn l (usable_lines rules (kept_flags p)) ⊎ IsIn l shared → lines.LineHolds l q
      either l (inl there) = kept-holds l there
      either l (inr there) = known.0 l there q (all-in (λ l. lines.LineHolds l q) (usable_lines rules (kept_flags p)) kept-holds)

  -- the weight of a path that is right
  right-weight : (path : List Bool) (weight : ℕ) → fits_change a.survey.fields f.row path weight ≡ true → path_weight a.survey.fields path ≡ weight
  right-weight path weight right = (Decides-eqb (path_weight a.survey.fields path) weight).0 (both_true _ _ (both_true _ _ right).1).1

  -- a released row of a path's weight is a correction of least weight, where no correction is lighter
  least-release : (path : List Bool) (weight : ℕ) → path_weight a.survey.fields path ≡ weight
      → ((q : Point) → IsCorrection a.survey q → weight ≤ change_weight a.survey f.row q) → AreReleasedTexts (rules_of a p) f path
      → IsSomeAnd f.texts (λ texts. IsLeastRelease a.survey a.sheet.columns (changes a.survey.fields path) f.row texts weight)
  least-release path weight is least released = some-then f.texts _ _ of_texts released
    where
      of_texts : (texts : List (List ℕ)) → (new : List Value) × IsReleasedAs a.survey a.sheet.columns (changes a.survey.fields path) f.reads f.row texts new
          → IsLeastRelease a.survey a.sheet.columns (changes a.survey.fields path) f.row texts weight
      of_texts texts (new, as_new) =
          let changed = changes a.survey.fields path in
          let text = text_at a.sheet.columns texts in
          let new_row = values-row changed text 0 a.survey.fields f.row new are as_new.values in
          let agrees = clean-agrees a.survey well new new_row as_new.clean in
          let correction = clean-corrects a.survey well new new_row as_new.clean in
          let weighs : change_weight a.survey f.row (point_of new) ≡ weight = differing-weighs a.survey f.row path (point_of new) are
          (row-differs changed text (point_of new) a.survey.fields f.row new are as_new.values agrees) ∙ is in
          record {
            new = new;
            values = as_new.values;
            point = point_of new;
            agrees = agrees;
            correction = correction;
            weighs = weighs;
            least = record { reached = (point_of new, correction, weighs); least = least };
          }

  -- a change with its released row: one that weighs nothing has the empty path
  change-shows : (path : List Bool) (weight : ℕ) (leaves : List Leaf) → IsChange path weight leaves → IsValidChange (rules_of a p) f path weight leaves
      → IsSomeAnd f.texts (λ texts. IsLeastRelease a.survey a.sheet.columns (changes a.survey.fields path) f.row texts weight)
  change-shows path zero leaves plain valid = least-release path 0 (ap (λ (q : List Bool). path_weight a.survey.fields q) plain.0
      ∙ empty-weighs a.survey.fields) (λ q correction. omega arith) valid
  change-shows path (suc w) leaves plain valid = least-release path (suc w) (right-weight path (suc w) valid.0.0) (none-lighter (Some (suc w)) leaves valid.0.1)
      valid.1

  said-shows : (outcome : Outcome) (fault : Option GiftFault) → IsOutcome outcome fault → IsValidSaid (rules_of a p) f outcome fault
      → ShowsSaid a.survey a.sheet.columns f outcome fault
  said-shows (Change path weight cert) None plain valid = change-shows path weight cert.leaves plain valid
  said-shows (Change path weight cert) (Some fault) plain valid = none-lighter (Some weight) cert.leaves valid.0.1
  said-shows (Contradictory cert) fault plain valid = none-lighter None cert.leaves valid
  said-shows (Budget path work) fault plain valid = tt
  said-shows (Overflow path event) fault plain valid = tt

-- each record shows it
module _ (a : Audit) (p : Proof) (well : IsWellFormed a.survey) (fits : Fits a p) where
  rows-show : (saids : List RowProof) (row_texts : List (List (List ℕ))) (rows : List (List Value)) (released : List (List (List ℕ)))
      → AllByRecursion IsRowProof saids → AllByRecursion (IsRow a.survey.fields) rows
      → AreValidRows (rules_of a p) saids row_texts rows released → ShowAll a.survey a.sheet.columns saids row_texts rows released
  rows-show [] [] [] released plain are valid = tt
  rows-show [] [] (row ∷ rows) released plain are valid = absurd valid
  rows-show [] (reads ∷ row_texts) rows released plain are valid = absurd valid
  rows-show (said ∷ saids) [] rows released plain are valid = absurd valid
  rows-show (said ∷ saids) (reads ∷ row_texts) [] released plain are valid = absurd valid
  rows-show (said ∷ saids) (reads ∷ row_texts) (row ∷ rows) released plain are valid = (
    said-shows a p well fits (files_of said reads row released) (row-is released) said.outcome said.gift plain.0 valid.0,
    rows-show saids row_texts rows (behind said released) plain.1 are.1 valid.1,
  )
    where
      row-is : (released : List (List (List ℕ))) → IsRow a.survey.fields (files_of said reads row released).row
      row-is [] = are.0
      row-is (texts ∷ later) = are.0

-- a valid release of a sheet shows that each line of the rules follows from those that are kept, that its rows are
-- corrections of least weight, that its contradictions are none, and that its claims are legal
pub release-shows : (a : Audit) → IsWellFormed a.survey → (bytes : List ℕ) → IsSheet a.survey.fields bytes a.sheet → IsValidRelease a → Shows a
release-shows a well bytes sheet valid = record {
  proof = valid.proof;
  spelled = valid.fits.spelled;
  follow = rules-follow a valid.proof well valid.fits;
  shared = (table-follows (no_record a.survey (normal_lines_of a.survey) (kept_flags valid.proof)) valid.proof.table (shared_lines a.survey valid.proof)
      (normal-over a.survey) (table-lines a.survey valid.proof valid.fits.table)).0;
  rows = valid.rows;
  released = valid.released;
  each = rows-show a valid.proof well valid.fits valid.proof.rows a.sheet.row_texts a.sheet.rows valid.rows valid.fits.spelled.plain.rows.1
      (rows_are_records a.survey.fields bytes a.sheet sheet) valid.each;
  legal = valid.claims.right.legal;
  within = λ donor. uses_within valid.proof.limit valid.proof.claims donor valid.claims.right.legal;
}
