-- What the proof says of the records, one after another, each with the texts that are released of it.
use Rattle.std.proofs.Common.{◌≡◌, ◌≢◌, sym, ap, subst, refl, ℕ, zero, suc, ◌<◌, ◌++◌, Bool, if◌then◌else◌, List, [], ◌∷◌, length, map, All, AllPairs, IsSome}
use Rattle.std.proofs.Common.{Option, Some, None}
use Rattle.std.specs.Prelude.{is_some, option_map}
use Rattle.std.specs.List.{AllByRecursion, AllZip}
use Rattle.edit_model.specs.Parts.{SurveyParts}
use Rattle.edit_model.specs.Rows.{IsRow}
use Rattle.edit_model.specs.Surveys.{IsWellFormed}
use Rattle.edit_model.specs.declared.field.Field.{Field}
use Rattle.edit_model.specs.declared.value.Value.{Value}
use Rattle.edit_line.specs.EditSets.{EditsParts}
use Rattle.bound_cert.specs.declared.outcome.GiftFault.{GiftFault}
use Rattle.bound_cert.specs.declared.outcome.Outcome.{Outcome}
use Rattle.bound_cert.specs.declared.outcome.Outcome.TheVariants.{Budget, Change, Contradictory, Overflow}
use Rattle.back_subst.specs.declared.gift.Gift.{Gift}
use Rattle.record_text.specs.Values.{AreRows, AreValues}
use Rattle.edit_report.specs.Ends.{path_found}
use Rattle.edit_report.specs.Released.{released_rows, released_texts, released_of, row_with}
use Rattle.edit_report.specs.declared.end.RowEnd.{RowEnd}
use Rattle.record_ends.specs.Ends.{ComesOf, IsEndOf}
use Rattle.record_ends.specs.Said.{OutcomeSays, Says}
use Rattle.cert_check.specs.Releases.{AreValidRows, behind, files_of, is_released}
use Rattle.cert_check.specs.RowChecks.{AreReleasedTexts, IsValidRow, RowFiles, RowRules}
use Rattle.edit_release.specs.Edits.{said, said_of}
use Rattle.edit_release.proofs.ReleasedLaws.{IsSaidReleased, clean-released, row-released}

-- ---- the texts that are released of a record

-- those of the values that it was given, if it was
abbrev pub files_with : List Field → List ℕ → List (List ℕ) → List Value → List Bool → Option Gift → RowFiles
files_with fields columns reads row path gift = record {
  reads = reads;
  row = row;
  texts =
      option_map (λ (g : Gift). released_texts fields columns path g.row reads) gift;
}

-- those of an end
abbrev pub own_files : List Field → List ℕ → List (List ℕ) → List Value → RowEnd → RowFiles
own_files fields columns reads row end = files_with fields columns reads row (path_found end.proof.outcome) end.gift

module _ (fields : List Field) (columns : List ℕ) (reads : List (List ℕ)) (row : List Value) (end : RowEnd) (rest : List (List (List ℕ)))
    (told : IsSaidReleased end) where
  -- they stand first among the released rows of the records from this one on
  pub files-own : files_of (said end) reads row (released_of fields columns reads end ++ rest) ≡ own_files fields columns reads row end
  files-own = by end.gift told rest
    where
      by : (gift : Option Gift) → is_released (said end) ≡ is_some gift → (released : List (List (List ℕ)))
          → files_of (said end) reads row (row_with fields columns reads (path_found end.proof.outcome) gift ++ released)
          ≡ files_with fields columns reads row (path_found end.proof.outcome) gift
      by None e [] = refl
      by None e (texts ∷ released) = ap (λ (b : Bool). record { reads = reads; row = row; texts = if b then Some texts else None }) e
      by (Some gift) e released = ap (λ (b : Bool). record {
        reads = reads;
        row = row;
        texts =
            if b then Some (released_texts fields columns (path_found end.proof.outcome) gift.row reads) else None;
      }) e

  -- and those of the other records are behind them
  pub behind-own : behind (said end) (released_of fields columns reads end ++ rest) ≡ rest
  behind-own = by end.gift told rest
    where
      by : (gift : Option Gift) → is_released (said end) ≡ is_some gift → (released : List (List (List ℕ)))
          → behind (said end) (row_with fields columns reads (path_found end.proof.outcome) gift ++ released) ≡ released
      by None e [] = refl
      by None e (texts ∷ released) = ap (λ (b : Bool). if b then released else texts ∷ released) e
      by (Some gift) e released = ap (λ (b : Bool). if b then released else released_texts fields columns (path_found end.proof.outcome) gift.row reads
          ∷ released) e

-- ---- all records

-- the fact holds of the texts, the values and the end of each record
abbrev pub AreEach : (List (List ℕ) → List Value → RowEnd → Type 0) → List (List (List ℕ)) → List (List Value) → List RowEnd → Type 0
AreEach P [] [] [] = Unit {0}
AreEach P (reads ∷ row_texts) (row ∷ rows) (end ∷ ends) = P reads row end × AreEach P row_texts rows ends
AreEach P _ _ _ = ⊥

-- it is told rightly whether a record is released, and what the proof says of it, with its own texts, is valid
abbrev pub IsValidEnd : RowRules → List Field → List ℕ → List (List ℕ) → List Value → RowEnd → Type 0
IsValidEnd r fields columns reads row end = IsSaidReleased end × IsValidRow r (own_files fields columns reads row end) (said end)

-- where this holds of each record, what the proof says of all is valid
pub rows-valid : (r : RowRules) (fields : List Field) (columns : List ℕ) (row_texts : List (List (List ℕ))) (rows : List (List Value)) (ends : List RowEnd)
    → AreEach (IsValidEnd r fields columns) row_texts rows ends
    → AreValidRows r (map said ends) row_texts rows (released_rows fields columns row_texts ends)
rows-valid r fields columns [] [] [] each = tt
rows-valid r fields columns [] [] (end ∷ ends) each = absurd each
rows-valid r fields columns [] (row ∷ rows) ends each = absurd each
rows-valid r fields columns (reads ∷ row_texts) [] ends each = absurd each
rows-valid r fields columns (reads ∷ row_texts) (row ∷ rows) [] each = absurd each
rows-valid r fields columns (reads ∷ row_texts) (row ∷ rows) (end ∷ ends) ((told, valid), later) = (
  subst (λ (files : RowFiles). IsValidRow r files (said end)) (sym (files-own fields columns reads row end (released_rows fields columns row_texts ends) told))
      valid,
  subst (λ (released : List (List (List ℕ))). AreValidRows r (map said ends) row_texts rows released)
      (sym (behind-own fields columns reads row end (released_rows fields columns row_texts ends) told))
      (rows-valid r fields columns row_texts rows ends later),
)

-- what follows of the texts of a row as long as the header, of its values and of its end holds of each record
pub each-follows : (P : List (List ℕ) → List Value → RowEnd → Type 0) (survey : SurveyParts) (edits : EditsParts) (columns : List ℕ) (width budget : ℕ)
    (all : List (List Value)) (row_texts : List (List (List ℕ))) (rows : List (List Value)) (ends : List RowEnd)
    → AreRows survey.fields columns row_texts rows → AllByRecursion (λ (reads : List (List ℕ)). length reads ≡ width) row_texts
    → AllZip (IsEndOf survey edits budget all) rows ends → AllZip (Says survey edits budget) rows ends
    → ((reads : List (List ℕ)) (row : List Value) (end : RowEnd) → AreValues survey.fields columns reads row → length reads ≡ width
    → IsEndOf survey edits budget all row end → Says survey edits budget row end → P reads row end)
    → AreEach P row_texts rows ends
each-follows P survey edits columns width budget all [] [] [] values long each say follows = tt
each-follows P survey edits columns width budget all [] [] (end ∷ ends) values long each say follows = absurd each
each-follows P survey edits columns width budget all [] (row ∷ rows) ends values long each say follows = absurd values
each-follows P survey edits columns width budget all (reads ∷ row_texts) [] ends values long each say follows = absurd values
each-follows P survey edits columns width budget all (reads ∷ row_texts) (row ∷ rows) [] values long each say follows = absurd each
each-follows P survey edits columns width budget all (reads ∷ row_texts) (row ∷ rows) (end ∷ ends) values long each say follows = (
  follows reads row end values.0 long.0 each.0 say.0,
  each-follows P survey edits columns width budget all row_texts rows ends values.1 long.1 each.1 say.1
      follows,
)

-- ---- a record that was given values

-- the texts that are released of it are as the proof says
pub end-released : (r : RowRules) (edits : EditsParts) (budget : ℕ) (reads : List (List ℕ)) (row : List Value) → IsWellFormed r.survey
    → IsRow r.survey.fields row
    → length r.columns ≡ length r.survey.fields → AllPairs (λ (c : ℕ) (d : ℕ). c ≢ d) r.columns → All (λ (c : ℕ). c < length reads) r.columns
    → (donor : Option (List Value)) (outcome : Outcome) (fault : Option GiftFault) (gift : Option Gift) → ComesOf r.survey edits row donor outcome fault gift
    → OutcomeSays r.survey edits budget row outcome gift → IsSome gift
    → AreReleasedTexts r (files_with r.survey.fields r.columns reads row (path_found outcome) gift) (path_found (said_of outcome fault).outcome)
end-released r edits budget reads row well is_row one_each distinct within donor outcome fault None follows says some = absurd (cc some)
end-released r edits budget reads row well is_row one_each distinct within donor (Change path zero cert) None (Some gift) follows says some =
    (gift.row, clean-released r.survey edits r.columns reads row path 0 donor gift well is_row one_each distinct within follows says refl)
end-released r edits budget reads row well is_row one_each distinct within donor (Change path (suc w) cert) None (Some gift) follows says some =
    (gift.row, row-released r.survey edits r.columns reads row path (suc w) donor gift well is_row one_each distinct within follows says)
end-released r edits budget reads row well is_row one_each distinct within donor (Change path w cert) (Some fault) (Some gift) follows says some =
    absurd follows
end-released r edits budget reads row well is_row one_each distinct within donor (Budget path work) None (Some gift) follows says some = absurd follows
end-released r edits budget reads row well is_row one_each distinct within donor (Budget path work) (Some fault) (Some gift) follows says some = absurd follows
end-released r edits budget reads row well is_row one_each distinct within donor (Overflow path event) None (Some gift) follows says some = absurd follows
end-released r edits budget reads row well is_row one_each distinct within donor (Overflow path event) (Some fault) (Some gift) follows says some =
    absurd follows
end-released r edits budget reads row well is_row one_each distinct within donor (Contradictory cert) None (Some gift) follows says some = absurd follows
end-released r edits budget reads row well is_row one_each distinct within donor (Contradictory cert) (Some fault) (Some gift) follows says some =
    absurd follows
