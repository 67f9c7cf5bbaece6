-- The released file has a row of each record that the proof says is released, with the values that were given.
use Rattle.std.proofs.Common.{◌≡◌, ◌≢◌, ◌∙◌, sym, ap, subst, refl, ℕ, zero, suc, ◌+◌, ◌<◌, ◌++◌, Bool, true, false, if◌then◌else◌, List, [], ◌∷◌, length, map}
use Rattle.std.proofs.Common.{slice_get, All, AllPairs, IsSomeAnd, Option, Some, None, arith, option_map}
use Rattle.std.specs.Prelude.{is_some}
use Rattle.std.specs.List.{AllByRecursion, AllZip, filter}
use Rattle.std.proofs.lemmas.List.{get_or_past}
use Rattle.std.proofs.lemmas.Option.{get_or_from_slice_get, slice_get_within}
use Rattle.std.proofs.lemmas.Slice.Zip.{AllZip-long}
use Rattle.edit_model.specs.Corrections.{differs_from, path_order}
use Rattle.edit_model.specs.FieldSets.{has_number}
use Rattle.edit_model.specs.Parts.{SurveyParts}
use Rattle.edit_model.specs.RowPoints.{Agrees}
use Rattle.edit_model.specs.Rows.{IsOfKind, IsRow, value_of}
use Rattle.edit_model.specs.Surveys.{IsField, IsWellFormed}
use Rattle.edit_model.specs.declared.field.Field.{Field}
use Rattle.edit_model.specs.declared.value.Value.{Value}
use Rattle.edit_model.proofs.RowLaws.{row-length, value-held}
use Rattle.edit_line.specs.EditSets.{EditsParts}
use Rattle.bound_cert.specs.Paths.{changes, path_place}
use Rattle.bound_cert.specs.declared.outcome.GiftFault.{GiftFault}
use Rattle.bound_cert.specs.declared.outcome.Outcome.{Outcome}
use Rattle.bound_cert.specs.declared.outcome.Outcome.TheVariants.{Budget, Change, Contradictory, Overflow}
use Rattle.edit_paths.proofs.ChoiceLaws.{word-at}
use Rattle.back_subst.specs.declared.gift.Gift.{Gift}
use Rattle.back_subst.proofs.FieldPoints.{agrees-held}
use Rattle.record_text.specs.Sheets.{IsSheet, SheetParts, text_at}
use Rattle.record_text.proofs.SheetLaws.{as_many_row_texts_as_rows, header_has_text, row_texts_as_long_as_header}
use Rattle.edit_report.specs.Ends.{path_found}
use Rattle.edit_report.specs.Released.{released_rows, released_text_of, released_texts, row_with, text_by, value_text, texts_from}
use Rattle.edit_report.specs.declared.end.RowEnd.{RowEnd}
use Rattle.edit_report.proofs.LineLaws.{released-count}
use Rattle.record_ends.specs.Ends.{ComesOf, IsEndOf, IsGiftOf}
use Rattle.record_ends.specs.Said.{IsCorrected}
use Rattle.cert_check.specs.Released.{IsGivenText, IsReleasedAs, IsValueOf}
use Rattle.cert_check.specs.Releases.{AreReleased, audit_of, is_released}
use Rattle.pruned_rules.specs.Pruned.{kept_edits}
use Rattle.edit_release.specs.Edits.{proof_of, said, said_of}
use Rattle.edit_release.proofs.ColumnTexts.{changed-text, same-elsewhere}
use Rattle.edit_release.proofs.GivenValues.{field-ordered, given-text, none-differs, other-value, values-from}
use Rattle.edit_release.proofs.ReadBackLaws.{sheet_header_kept, written-read}
use Rattle.donor_search.specs.CleanRows.{row_at}
use Rattle.record_editing.specs.declared.terms.Terms.{Terms}
use Rattle.donor_book.specs.declared.claim.Entry.{Entry}
use Rattle.edit_model.proofs.CleanLaws.{held-clean}

-- ---- which records are released

-- the proof says of a record that it is released where it was given values
abbrev pub IsSaidReleased : RowEnd → Type 0
IsSaidReleased end = is_released (said end) ≡ is_some end.gift

said-released : (survey : SurveyParts) (edits : EditsParts) (row : List Value) (donor : Option (List Value)) (outcome : Outcome) (fault : Option GiftFault)
    (gift : Option Gift) → ComesOf survey edits row donor outcome fault gift
    → is_released (said_of outcome fault) ≡ is_some gift
said-released survey edits row donor (Change path zero cert) None None follows = absurd follows
said-released survey edits row donor (Change path zero cert) None (Some gift) follows = refl
said-released survey edits row donor (Change path zero cert) (Some fault) None follows = refl
said-released survey edits row donor (Change path zero cert) (Some fault) (Some gift) follows = absurd follows
said-released survey edits row donor (Change path (suc w) cert) None None follows = absurd follows
said-released survey edits row donor (Change path (suc w) cert) None (Some gift) follows = refl
said-released survey edits row donor (Change path (suc w) cert) (Some fault) None follows = refl
said-released survey edits row donor (Change path (suc w) cert) (Some fault) (Some gift) follows = absurd follows
said-released survey edits row donor (Budget path work) None None follows = refl
said-released survey edits row donor (Budget path work) None (Some gift) follows = absurd follows
said-released survey edits row donor (Budget path work) (Some fault) None follows = absurd follows
said-released survey edits row donor (Budget path work) (Some fault) (Some gift) follows = absurd follows
said-released survey edits row donor (Overflow path event) None None follows = refl
said-released survey edits row donor (Overflow path event) None (Some gift) follows = absurd follows
said-released survey edits row donor (Overflow path event) (Some fault) None follows = absurd follows
said-released survey edits row donor (Overflow path event) (Some fault) (Some gift) follows = absurd follows
said-released survey edits row donor (Contradictory cert) None None follows = refl
said-released survey edits row donor (Contradictory cert) None (Some gift) follows = absurd follows
said-released survey edits row donor (Contradictory cert) (Some fault) None follows = absurd follows
said-released survey edits row donor (Contradictory cert) (Some fault) (Some gift) follows = absurd follows

pub end-said : (survey : SurveyParts) (edits : EditsParts) (budget : ℕ) (all : List (List Value)) (row : List Value) (end : RowEnd)
    → IsEndOf survey edits budget all row end → IsSaidReleased end
end-said survey edits budget all row end is = said-released survey edits row (option_map (row_at all) end.donor) end.proof.outcome end.proof.gift end.gift
    is.follows

pub ends-said : (survey : SurveyParts) (edits : EditsParts) (budget : ℕ) (all rows : List (List Value)) (ends : List RowEnd)
    → AllZip (IsEndOf survey edits budget all) rows ends
    → AllByRecursion IsSaidReleased ends
ends-said survey edits budget all [] [] each = tt
ends-said survey edits budget all [] (end ∷ ends) each = absurd each
ends-said survey edits budget all (row ∷ rows) [] each = absurd each
ends-said survey edits budget all (row ∷ rows) (end ∷ ends) each = (
  end-said survey edits budget all row end each.0,
  ends-said survey edits budget all rows ends
      each.1,
)

-- there are as many
said-count : (ends : List RowEnd) → AllByRecursion IsSaidReleased ends → length (filter (λ (end : RowEnd). is_some end.gift) ends)
    ≡ length (filter is_released (map said ends))
said-count [] each = refl
said-count (end ∷ ends) each =
    more (is_some end.gift) (said-count ends each.1)
    ∙ ap (λ b. length (if b then said end ∷ filter is_released (map said ends) else filter is_released (map said ends))) (sym each.0)
  where
    more : (b : Bool) → length (filter (λ (e : RowEnd). is_some e.gift) ends) ≡ length (filter is_released (map said ends))
        → length (if b then end ∷ filter (λ (e : RowEnd). is_some e.gift) ends else filter (λ (e : RowEnd). is_some e.gift) ends)
        ≡ length (if b then said end ∷ filter is_released (map said ends) else filter is_released (map said ends))
    more true same = ap suc same
    more false same = same

-- ---- how long the released rows are

-- a released row has the columns of the one that was read
pub texts-length : (fields : List Field) (columns : List ℕ) (changed : ℕ → Bool) (new : List Value) (j : ℕ) (texts : List (List ℕ))
    → length (texts_from fields columns changed new j texts) ≡ length texts
texts-length fields columns changed new j [] = refl
texts-length fields columns changed new j (text ∷ texts) = ap suc (texts-length fields columns changed new (suc j) texts)

rows-long : (fields : List Field) (columns : List ℕ) (width : ℕ) (row_texts : List (List (List ℕ))) (ends : List RowEnd)
    → AllByRecursion (λ (texts : List (List ℕ)). length texts ≡ width) row_texts
    → AllByRecursion (λ (texts : List (List ℕ)). length texts ≡ width) (released_rows fields columns row_texts ends)
rows-long fields columns width [] ends long = tt
rows-long fields columns width (texts ∷ row_texts) [] long = tt
rows-long fields columns width (texts ∷ row_texts) (end ∷ ends) long = first (path_found end.proof.outcome) end.gift
    (rows-long fields columns width row_texts ends long.1)
  where
    first : (path : List Bool) (gift : Option Gift) → AllByRecursion (λ (ts : List (List ℕ)). length ts ≡ width) (released_rows fields columns row_texts ends)
        → AllByRecursion (λ (ts : List (List ℕ)). length ts ≡ width) (row_with fields columns texts path gift ++ released_rows fields columns row_texts ends)
    first path None rest = rest
    first path (Some gift) rest = (texts-length fields columns _ gift.row 0 texts ∙ long.0, rest)

-- ---- the released file

-- the released file has a row of each record that the proof says is released, behind the header
pub are-released : (survey : SurveyParts) (bytes : List ℕ) (sheet : SheetParts) (terms : Terms) (ends : List RowEnd) (history : List Entry) (proof : List ℕ)
    → IsSheet survey.fields bytes sheet
    → AllZip (IsEndOf survey (kept_edits survey) terms.budget sheet.rows) sheet.rows ends
    → AllByRecursion IsSaidReleased ends
    → AreReleased (audit_of survey sheet (released_text_of survey sheet ends) proof) (proof_of survey terms ends history)
    (released_rows survey.fields sheet.columns sheet.row_texts ends)
are-released survey bytes sheet terms ends history proof is each told = record {
  first = sheet.header;
  given = written-read sheet.header (released_rows survey.fields sheet.columns sheet.row_texts ends) (header_has_text survey.fields bytes sheet is)
      (sheet_header_kept survey.fields bytes sheet is) long;
  header = sheet_header_kept survey.fields bytes sheet is;
  long = long;
  one_each = released-count survey.fields sheet.columns sheet.row_texts ends (as_many_row_texts_as_rows survey.fields bytes sheet is
      ∙ sym (AllZip-long (IsEndOf survey (kept_edits survey) terms.budget sheet.rows) sheet.rows ends each)) ∙ said-count ends told;
}
  where
    long : AllByRecursion (λ (texts : List (List ℕ)). length texts ≡ length sheet.header) (released_rows survey.fields sheet.columns sheet.row_texts ends)
    long = rows-long survey.fields sheet.columns (length sheet.header) sheet.row_texts ends (row_texts_as_long_as_header survey.fields bytes sheet is)

-- ---- a released row

module _ (survey : SurveyParts) (edits : EditsParts) (columns : List ℕ) (reads : List (List ℕ)) (row : List Value) (path : List Bool) (weight : ℕ)
    (donor : Option (List Value)) (gift : Gift) (well : IsWellFormed survey) (is_row : IsRow survey.fields row)
    (one_each : length columns ≡ length survey.fields) (distinct : AllPairs (λ (c : ℕ) (d : ℕ). c ≢ d) columns)
    (within : All (λ (c : ℕ). c < length reads) columns)
    (given : IsGiftOf survey edits row path donor gift) (corrected : IsCorrected survey row gift.row path weight) where
  abbrev texts : List (List ℕ)
  texts = released_texts survey.fields columns path gift.row reads

  -- the path changes the fields that are given values
  changed-given : (f : ℕ) → f < length survey.fields → changes survey.fields path f ≡ has_number given.changed f
  changed-given f below = ap (λ (letters : List Bool). changes survey.fields letters f) (sym given.fields)
      ∙ word-at (has_number given.changed) (path_order survey.fields) f false (field-ordered survey.fields f below)

  -- and at these the correction differs
  changed-differs : (f : ℕ) → f < length survey.fields → changes survey.fields path f ≡ differs_from (value_of row f) corrected.point f
  changed-differs f below =
      ap (λ (letters : List Bool). changes survey.fields letters f) (sym corrected.differs)
      ∙ word-at (λ g. differs_from (value_of row g) corrected.point g) (path_order survey.fields) f false (field-ordered survey.fields f below)

  agrees : (f : ℕ) → f < length gift.row → Agrees gift.row corrected.point f
  agrees f below = corrected.correction.agrees f below refl

  -- the text of a changed field is that of its value
  text-given : (f : ℕ) (field : Field) → slice_get survey.fields f ≡ Some field → changes survey.fields path f ≡ true
      → IsGivenText field.kind (text_at columns texts f) (value_of gift.row f)
  text-given f field at is =
      let below = slice_get_within survey.fields f field at in
      let there : f < length gift.row = omega (arith, below, row-length survey.fields gift.row given.imputed.fits) in
      let own : IsField field = subst IsField (get_or_from_slice_get survey.fields f field field at) (well.fields f field below) in
      let fits : IsOfKind field.kind (value_of gift.row f) = subst (λ (o : Option Field). IsSomeAnd o (λ g. IsOfKind g.kind (value_of gift.row f))) at
      (value-held survey.fields gift.row f given.imputed.fits below) in
      let text : text_at columns texts f ≡ value_text field.kind (value_of gift.row f) =
      changed-text survey.fields columns (changes survey.fields path) gift.row f reads distinct (omega (arith, below, one_each))
      (within f 0 (omega (arith, below, one_each))) is ∙ ap (λ (o : Option Field). text_by o (value_of gift.row f)) at in
      subst (λ (t : List ℕ). IsGivenText field.kind t (value_of gift.row f)) (sym text) (given-text field.kind (value_of gift.row f) own.fits fits
      (agrees-held gift.row corrected.point f (agrees f there)))

  value-told : (f : ℕ) (field : Field) (told : Bool) → slice_get survey.fields f ≡ Some field → changes survey.fields path f ≡ told
      → IsValueOf told field.kind (text_at columns texts f) (value_of row f) (value_of gift.row f)
  value-told f field false at is = given.imputed.keeps f (sym (changed-given f (slice_get_within survey.fields f field at)) ∙ is)
  value-told f field true at is =
      let below = slice_get_within survey.fields f field at in (
        text-given f field at is,
        other-value (value_of gift.row f) (value_of row f) corrected.point f (sym (changed-differs f below) ∙ is)
            (agrees f (omega (arith, below, row-length survey.fields gift.row given.imputed.fits))),
      )

  -- the row is released where it is told which fields the path changes
  released-as : (told : ℕ → Bool) → ((f : ℕ) → told f ≡ changes survey.fields path f) → IsReleasedAs survey columns told reads row texts gift.row
  released-as told same = record {
    values = values-from told (text_at columns texts) 0 survey.fields row gift.row is_row given.imputed.fits (λ k field at.
        let own : 0 + k ≡ k = omega arith in
        subst (λ n. IsValueOf (told n) field.kind (text_at columns texts n) (value_of row k) (value_of gift.row k)) (sym own)
        (value-told k field (told k) at (sym (same k))));
    elsewhere = same-elsewhere survey.fields columns (changes survey.fields path) gift.row told same 0 reads;
    clean = held-clean survey gift.row (λ f below. agrees-held gift.row corrected.point f (agrees f below)) given.tested;
  }

  -- the row of a record that was given values is released with its changed fields
  pub row-released : IsReleasedAs survey columns (changes survey.fields path) reads row (released_texts survey.fields columns path gift.row reads) gift.row
  row-released = released-as (changes survey.fields path) (λ f. refl)

  -- and that of a clean one with none
  pub clean-released : weight ≡ 0 → IsReleasedAs survey columns (changes survey.fields []) reads row (released_texts survey.fields columns path gift.row reads)
      gift.row
  clean-released none = released-as (changes survey.fields []) (λ f. get_or_past [] (path_place survey.fields f) false (omega arith) ∙ sym (unchanged f))
    where
      unchanged : (f : ℕ) → changes survey.fields path f ≡ false
      unchanged f = ap (λ (letters : List Bool). changes survey.fields letters f) (sym corrected.differs)
          ∙ none-differs survey row corrected.point well.fields is_row (corrected.weighs ∙ none) f
