-- Filled rows, one after the other, and what is counted of them.
use Rattle.std.proofs.Common.{◌≡◌, ◌+◌, ◌<◌, ◌≤◌, ℕ, List, [], ◌∷◌, ◌++◌, get_or, length, take, refl, sym, ap, ◌∙◌, subst, arith}
use Rattle.std.specs.List.{AllZip}
use Rattle.std.proofs.lemmas.List.{length-append, length-take-le, take_all, take_more}
use Rattle.std.proofs.lemmas.Slice.Zip.{AllZip-long, all_zipped_more}
use Rattle.edit_model.specs.Parts.{SurveyParts}
use Rattle.edit_model.specs.declared.field.Field.{Field}
use Rattle.edit_model.specs.declared.value.Value.{Value}
use Rattle.record_text.specs.Sheets.{SheetParts}
use Rattle.record_text.specs.Texts.{records_text}
use Rattle.record_text.proofs.WritingLaws.{records_text-append}
use Rattle.deduce_fill.specs.declared.filled.Filled.{Filled}
use Rattle.filled_release.specs.FilledFiles.{IsAnswerFor, filled_rows, filled_text, filled_texts}
use Rattle.filled_release.specs.inner.Counts.{AreCountsOf, AreFew}
use Rattle.filled_release.specs.inner.FilledRows.{IsFilledTo}
use Rattle.filled_release.specs.declared.counts.Counts.{Counts}

module _ (fields : List Field) (columns : List ℕ) where
  -- one row more
  rows-push : (row_texts : List (List (List ℕ))) (answers : List Filled) (texts : List (List ℕ)) (answer : Filled) → length answers ≡ length row_texts
      → filled_rows fields columns (row_texts ++ texts ∷ []) (answers ++ answer ∷ [])
      ≡ filled_rows fields columns row_texts answers ++ filled_texts fields columns texts answer ∷ []
  rows-push [] [] texts answer long = refl
  rows-push [] (a ∷ answers) texts answer long = absurd (omega (arith, long))
  rows-push (t ∷ row_texts) [] texts answer long = absurd (omega (arith, long))
  rows-push (t ∷ row_texts) (a ∷ answers) texts answer long =
      ap (λ (rows : List (List (List ℕ))). filled_texts fields columns t a ∷ rows) (rows-push row_texts answers texts answer (omega (arith, long)))

module _ (survey : SurveyParts) (sheet : SheetParts) (budget : ℕ) (same : length sheet.row_texts ≡ length sheet.rows) where
  abbrev Answers : List (List Value) → List Filled → Type 0
  Answers rows answers = AllZip (IsAnswerFor survey budget) rows answers

  -- the text of these records
  abbrev written : List (List (List ℕ)) → List Filled → List ℕ
  written row_texts answers = records_text (sheet.header ∷ filled_rows survey.fields sheet.columns row_texts answers)

  -- the row of a record more
  abbrev row_after : List (List ℕ) → Filled → List (List (List ℕ))
  row_after texts answer = filled_texts survey.fields sheet.columns texts answer ∷ []

  written-push : (row_texts : List (List (List ℕ))) (answers : List Filled) (texts : List (List ℕ)) (answer : Filled) → length answers ≡ length row_texts
      → written row_texts answers ++ records_text (row_after texts answer) ≡ written (row_texts ++ texts ∷ []) (answers ++ answer ∷ [])
  written-push row_texts answers texts answer long =
      sym (records_text-append (sheet.header ∷ filled_rows survey.fields sheet.columns row_texts answers) (row_after texts answer))
      ∙ ap (λ (rows : List (List (List ℕ))). records_text (sheet.header ∷ rows))
      (sym (rows-push survey.fields sheet.columns row_texts answers texts answer long))

  -- one record more
  pub filled-more : (n : ℕ) (text later : List ℕ) (counts after : Counts) (answer : Filled) → n < length sheet.rows
      → IsFilledTo survey sheet budget n text counts → IsAnswerFor survey budget (get_or sheet.rows n []) answer
      → later ≡ text ++ records_text (row_after (get_or sheet.row_texts n []) answer)
      → AreFew after → ((before : List Filled) → AreCountsOf before counts → AreCountsOf (before ++ answer ∷ []) after)
      → IsFilledTo survey sheet budget (n + 1) later after
  filled-more n text later counts after answer below before is put few counted =
      let answers = before.answers in
      let now = counted answers before.counted in
      let texts = get_or sheet.row_texts n [] in
      let below_texts : n < length sheet.row_texts = omega (arith, same, below) in
      let rows_long : length (take n sheet.rows) ≡ n = length-take-le n sheet.rows (omega (arith, below)) in
      let texts_long : length (take n sheet.row_texts) ≡ n = length-take-le n sheet.row_texts (omega (arith, below_texts)) in
      let long = AllZip-long (IsAnswerFor survey budget) (take n sheet.rows) answers before.each in
      let each = all_zipped_more (IsAnswerFor survey budget) (take n sheet.rows) answers (get_or sheet.rows n []) answer before.each is in
      record {
        answers = answers ++ answer ∷ [];
        each = subst (λ (rows : List (List Value)). Answers rows (answers ++ answer ∷ [])) (sym (take_more sheet.rows n [] below)) each;
        text =
            put ∙ ap (λ (bytes : List ℕ). bytes ++ records_text (row_after texts answer)) before.text
            ∙ written-push (take n sheet.row_texts) answers texts answer (omega (arith, long, rows_long, texts_long))
            ∙ ap (λ (ts : List (List (List ℕ))). written ts (answers ++ answer ∷ [])) (sym (take_more sheet.row_texts n [] below_texts));
        counted = now;
        few = few;
        all = omega (arith, now.records, before.counted.records, before.all, length-append answers (answer ∷ []));
      }

  -- and all of them
  pub filled-all : (n : ℕ) (text : List ℕ) (counts : Counts) → length sheet.rows ≤ n → (before : IsFilledTo survey sheet budget n text counts)
      → AllZip (IsAnswerFor survey budget) sheet.rows before.answers × (text ≡ filled_text survey sheet before.answers)
  filled-all n text counts past before = (
    subst (λ (rows : List (List Value)). Answers rows before.answers) (take_all n sheet.rows past) before.each,
    before.text ∙ ap (λ (ts : List (List (List ℕ))). written ts before.answers) (take_all n sheet.row_texts (omega (arith, same, past))),
  )
