-- What is told of one record more, and of all records.
use Rattle.std.proofs.Common.{◌≡◌, ◌+◌, ◌<◌, ◌≤◌, ℕ, suc, Bool, List, [], ◌∷◌, ◌++◌, codes, get_or, length, take, sym, ap, ◌∙◌, subst, arith, add-zero}
use Rattle.std.proofs.Common.{append_assoc, length-append}
use Rattle.std.specs.List.{AllZip, flat_map}
use Rattle.std.proofs.lemmas.List.{append-nil, flat_map_more, length-map, length-take-le, map-append, take_all, take_more}
use Rattle.std.proofs.lemmas.Slice.Zip.{AllZip-long, all_zipped_more}
use Rattle.edit_model.specs.declared.field.Field.{Field}
use Rattle.edit_model.specs.declared.value.Value.{Value}
use Rattle.edit_normal.specs.RuleLines.{normal_lines_of}
use Rattle.bound_cert.specs.declared.cert.Cert.{Cert}
use Rattle.bound_cert.specs.declared.outcome.RowProof.{RowProof}
use Rattle.back_subst.specs.declared.gift.Gift.{Gift}
use Rattle.record_text.specs.Texts.{records_text}
use Rattle.record_text.proofs.WritingLaws.{records_text-append}
use Rattle.edit_report.specs.Reasons.{reasons_header}
use Rattle.edit_report.specs.Released.{released_of, released_rows}
use Rattle.edit_report.specs.declared.end.RowEnd.{RowEnd}
use Rattle.panel_link.specs.declared.linked.Linked.{Linked}
use Rattle.panel_link.specs.declared.linked.Linked.TheVariants as linked
use Rattle.proof_text.specs.RowTexts.{row_text}
use Rattle.panel_release.specs.PanelReleases.{IsAnswerAmong, IsPanelRelease, PanelCase, answer_text, columns_in, end_of, ends_of, head_text}
use Rattle.panel_release.specs.PanelReleases.{panel_lines, panel_lines_from, proof_of, reasons_to, released_to}
use Rattle.panel_release.specs.declared.release.PanelRelease.{PanelRelease}
use Rattle.panel_release.specs.declared.told.Told.{Told}
use Rattle.panel_release.specs.inner.Counts.{AreCountsOf, AreFew, CountsOne}
use Rattle.panel_release.specs.inner.Panels.{rows_of}
use Rattle.panel_release.specs.inner.Tellings.{EndsAs, TellsCause, TellsEnd, TellsNone, TellsOne, TellsTo}

-- ---- one record, by its answer

module _ (fields : List Field) (columns : List ℕ) (number : ℕ) (texts : List (List ℕ)) (before after : Told) where
  -- one without last values
  pub no-last-told : TellsCause number (codes "nolast") (codes "nolast\n") before after → TellsOne fields columns number texts linked.NoLast before after
  no-last-told told = record {
    released = told.released ∙ sym (append-nil before.released);
    reasons = told.reasons;
    proof = told.proof;
  }

  -- one without a correction
  pub no-correction-told : (cert : Cert) (text : List ℕ) → text ≡ row_text (proof_of (linked.NoCorrection cert))
      → TellsCause number (codes "nocorrection") text before after → TellsOne fields columns number texts (linked.NoCorrection cert) before after
  no-correction-told cert text is told = record {
    released = told.released ∙ sym (append-nil before.released);
    reasons = told.reasons;
    proof = told.proof ∙ ap (λ (bs : List ℕ). before.proof.items ++ bs) is;
  }

  -- a changed one
  pub change-told : (path : List Bool) (weight : ℕ) (cert : Cert) (gift : Gift)
      → TellsEnd fields columns number texts (end_of (linked.Change path weight cert gift)) before after
      → TellsOne fields columns number texts (linked.Change path weight cert gift) before after
  change-told path weight cert gift told = record { released = told.released; reasons = told.reasons; proof = told.proof }

  -- and one whose search, or whose giving of values, stopped
  pub stopped-told : (proof : RowProof) → TellsEnd fields columns number texts (end_of (linked.Stopped proof)) before after
      → TellsOne fields columns number texts (linked.Stopped proof) before after
  stopped-told proof told = record { released = told.released; reasons = told.reasons; proof = told.proof }

-- ---- the texts of one record more

module _ (fields : List Field) (columns : List ℕ) where
  rows-push : (row_texts : List (List (List ℕ))) (ends : List RowEnd) (texts : List (List ℕ)) (end : RowEnd) → length ends ≡ length row_texts
      → released_rows fields columns (row_texts ++ texts ∷ []) (ends ++ end ∷ [])
      ≡ released_rows fields columns row_texts ends ++ released_of fields columns texts end
  rows-push [] [] texts end long = append-nil (released_of fields columns texts end)
  rows-push [] (e ∷ ends) texts end long = absurd (omega (arith, long))
  rows-push (t ∷ row_texts) [] texts end long = absurd (omega (arith, long))
  rows-push (t ∷ row_texts) (e ∷ ends) texts end long =
      ap (λ (rows : List (List (List ℕ))). released_of fields columns t e ++ rows) (rows-push row_texts ends texts end (omega (arith, long)))
      ∙ sym (append_assoc (released_of fields columns t e) (released_rows fields columns row_texts ends) (released_of fields columns texts end))

  lines-push : (number : ℕ) (row_texts : List (List (List ℕ))) (answers : List Linked) (texts : List (List ℕ)) (answer : Linked)
      → length answers ≡ length row_texts
      → panel_lines_from fields columns number (row_texts ++ texts ∷ []) (answers ++ answer ∷ [])
      ≡ panel_lines_from fields columns number row_texts answers ++ panel_lines fields columns (number + length row_texts) texts answer
  lines-push number [] [] texts answer long =
      append-nil (panel_lines fields columns number texts answer)
      ∙ ap (λ n. panel_lines fields columns n texts answer) (sym (add-zero number))
  lines-push number [] (a ∷ answers) texts answer long = absurd (omega (arith, long))
  lines-push number (t ∷ row_texts) [] texts answer long = absurd (omega (arith, long))
  lines-push number (t ∷ row_texts) (a ∷ answers) texts answer long =
      ap (λ (rows : List (List (List ℕ))). panel_lines fields columns number t a ++ rows)
      (lines-push (suc number) row_texts answers texts answer (omega (arith, long)) ∙ ap (λ n. rest ++ panel_lines fields columns n texts answer) next)
      ∙ sym (append_assoc (panel_lines fields columns number t a) rest (panel_lines fields columns (number + length (t ∷ row_texts)) texts answer))
    where
      rest : List (List (List ℕ))
      rest = panel_lines_from fields columns (suc number) row_texts answers

      next : suc number + length row_texts ≡ number + length (t ∷ row_texts)
      next = omega arith

-- ---- the first records

module _ (panel : PanelCase) (budget : ℕ) (texts_many : length panel.files.own.row_texts ≡ length panel.files.own.rows)
    (rows_many : length (rows_of panel) ≡ length panel.files.own.rows) where
  abbrev fields : List Field
  fields = panel.survey.fields

  abbrev columns : List ℕ
  columns = columns_in panel

  abbrev Answers : List (List Value) → List Linked → Type 0
  Answers rows answers = AllZip (IsAnswerAmong panel.survey panel.set budget) rows answers

  abbrev head : List ℕ
  head = head_text budget (length (normal_lines_of panel.survey)) (length panel.files.own.rows)

  released-push : (row_texts : List (List (List ℕ))) (answers : List Linked) (texts : List (List ℕ)) (answer : Linked)
      → length answers ≡ length row_texts → released_to panel row_texts answers ++ records_text (released_of fields columns texts (end_of answer))
      ≡ released_to panel (row_texts ++ texts ∷ []) (answers ++ answer ∷ [])
  released-push row_texts answers texts answer long =
      sym (records_text-append (panel.files.own.header ∷ released_rows fields columns row_texts (ends_of answers))
      (released_of fields columns texts (end_of answer)))
      ∙ ap (λ (rows : List (List (List ℕ))). records_text (panel.files.own.header ∷ rows))
      (sym (rows-push fields columns row_texts (ends_of answers) texts (end_of answer) (length-map answers end_of ∙ long)))
      ∙ ap (λ (ends : List RowEnd). records_text (panel.files.own.header ∷ released_rows fields columns (row_texts ++ texts ∷ []) ends))
      (sym (map-append end_of answers (answer ∷ [])))

  reasons-push : (row_texts : List (List (List ℕ))) (answers : List Linked) (texts : List (List ℕ)) (answer : Linked) (number : ℕ)
      → length answers ≡ length row_texts → length row_texts ≡ number
      → reasons_to panel row_texts answers ++ records_text (panel_lines fields columns number texts answer)
      ≡ reasons_to panel (row_texts ++ texts ∷ []) (answers ++ answer ∷ [])
  reasons-push row_texts answers texts answer number long is =
      sym (records_text-append (reasons_header ∷ panel_lines_from fields columns 0 row_texts answers) (panel_lines fields columns number texts answer))
      ∙ ap (λ n. records_text (reasons_header ∷ (panel_lines_from fields columns 0 row_texts answers ++ panel_lines fields columns n texts answer)))
      number_is
      ∙ ap (λ (rows : List (List (List ℕ))). records_text (reasons_header ∷ rows)) (sym (lines-push fields columns 0 row_texts answers texts answer long))
    where
      number_is : number ≡ 0 + length row_texts
      number_is = omega (arith, is)

  -- no record
  pub told-none : (told : Told) → TellsNone panel.files.own (length (normal_lines_of panel.survey)) budget told → TellsTo panel budget 0 told
  told-none told none = record {
    answers = [];
    each = tt;
    released = none.released;
    reasons = none.reasons;
    proof = none.proof ∙ sym (append-nil head);
    counted = none.counted fields;
    few = none.few;
    all = none.none;
  }

  -- one record more
  pub told-more : (n : ℕ) (before after : Told) (answer : Linked) → n < length panel.files.own.rows → TellsTo panel budget n before
      → IsAnswerAmong panel.survey panel.set budget (get_or (rows_of panel) n []) answer
      → TellsOne fields columns n (get_or panel.files.own.row_texts n []) answer before after
      → CountsOne fields (end_of answer) before.counts after.counts → AreFew after.counts → TellsTo panel budget (n + 1) after
  told-more n before after answer below so_far is one counts few =
      let answers = so_far.answers in
      let texts = get_or panel.files.own.row_texts n [] in
      let counted = counts (ends_of answers) so_far.counted in
      let below_texts : n < length panel.files.own.row_texts = omega (arith, texts_many, below) in
      let below_rows : n < length (rows_of panel) = omega (arith, rows_many, below) in
      let rows_long : length (take n (rows_of panel)) ≡ n = length-take-le n (rows_of panel) (omega (arith, below_rows)) in
      let texts_long : length (take n panel.files.own.row_texts) ≡ n = length-take-le n panel.files.own.row_texts (omega (arith, below_texts)) in
      let many = AllZip-long (IsAnswerAmong panel.survey panel.set budget) (take n (rows_of panel)) answers so_far.each in
      let long : length answers ≡ length (take n panel.files.own.row_texts) = omega (arith, many, rows_long, texts_long) in
      let each = all_zipped_more (IsAnswerAmong panel.survey panel.set budget) (take n (rows_of panel)) answers (get_or (rows_of panel) n [])
      answer so_far.each is in
      record {
        answers = answers ++ answer ∷ [];
        each = subst (λ (rows : List (List Value)). Answers rows (answers ++ answer ∷ [])) (sym (take_more (rows_of panel) n [] below_rows)) each;
        released =
            one.released ∙ ap (λ (bytes : List ℕ). bytes ++ records_text (released_of fields columns texts (end_of answer))) so_far.released
            ∙ released-push (take n panel.files.own.row_texts) answers texts answer long
            ∙ ap (λ (ts : List (List (List ℕ))). released_to panel ts (answers ++ answer ∷ [])) (sym (take_more panel.files.own.row_texts n [] below_texts));
        reasons =
            one.reasons ∙ ap (λ (bytes : List ℕ). bytes ++ records_text (panel_lines fields columns n texts answer)) so_far.reasons
            ∙ reasons-push (take n panel.files.own.row_texts) answers texts answer n long texts_long
            ∙ ap (λ (ts : List (List (List ℕ))). reasons_to panel ts (answers ++ answer ∷ [])) (sym (take_more panel.files.own.row_texts n [] below_texts));
        proof =
            one.proof ∙ ap (λ (bytes : List ℕ). bytes ++ answer_text answer) so_far.proof ∙ flat_map_more answer_text head answers answer;
        counted =
            subst (λ (ends : List RowEnd). AreCountsOf fields ends after.counts) (sym (map-append end_of answers (answer ∷ []))) counted;
        few = few;
        all = counted.records ∙ length-append (ends_of answers) (end_of answer ∷ []) ∙ ap (λ k. k + 1) (sym so_far.counted.records ∙ so_far.all);
      }

  -- and all of them
  pub told-all : (n : ℕ) (told : Told) (release : PanelRelease) → length panel.files.own.rows ≤ n → TellsTo panel budget n told
      → EndsAs told release → IsPanelRelease panel budget release
  told-all n told release past so_far ends =
      let answers = so_far.answers in
      let rows_all = take_all n (rows_of panel) (omega (arith, rows_many, past)) in
      let texts_all = take_all n panel.files.own.row_texts (omega (arith, texts_many, past)) in
      let each : Answers (rows_of panel) answers = subst (λ (rows : List (List Value)). Answers rows answers) rows_all so_far.each in
      let many : length answers ≡ length panel.files.own.rows =
      AllZip-long (IsAnswerAmong panel.survey panel.set budget) (rows_of panel) answers each ∙ rows_many in
      record {
        answers = answers;
        each = each;
        released = ends.released ∙ so_far.released ∙ ap (λ (ts : List (List (List ℕ))). released_to panel ts answers) texts_all;
        reasons = ends.reasons ∙ so_far.reasons ∙ ap (λ (ts : List (List (List ℕ))). reasons_to panel ts answers) texts_all;
        proof =
            ends.proof ∙ ap (λ (bytes : List ℕ). bytes ++ codes "end\n") so_far.proof
            ∙ append_assoc head (flat_map answer_text answers) (codes "end\n")
            ∙ ap (λ n. head_text budget (length (normal_lines_of panel.survey)) n ++ (flat_map answer_text answers ++ codes "end\n")) (sym many);
        summary = ends.summary panel.survey (ends_of answers) so_far.counted;
        whole = ends.whole fields (ends_of answers) so_far.counted;
      }
