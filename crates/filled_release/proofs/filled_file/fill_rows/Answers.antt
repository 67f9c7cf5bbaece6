use Rattle.std.proofs.Common.{◌≡◌, ◌<◌, ℕ, List, [], ap, arith, get_or, length, subst, sym, ◌∙◌}
use Rattle.std.proofs.lemmas.List.{get_or_default}
use Rattle.edit_model.specs.Rows.{IsRow}
use Rattle.edit_model.specs.declared.value.Value.{Value}
use Rattle.edit_report.proofs.SheetLaws.{raw-long, sheet-layout}
use Rattle.edit_report.proofs.WrittenLaws.{each-at}
use Rattle.record_text.proofs.ValueLaws.{all_are_rows}
use Rattle.filled_release.specs.FilledFiles.{IsAnswerFor}
use Rattle.filled_release.specs.inner.FilledRows.{IsFilledTo}
use Rattle.filled_release.proofs.FilledRowLaws.{filled-more}
use Rattle.filled_release.proofs.filled_file.fill_rows.Goals as goal

pub answer_for-requires-clause-row : goal.answer_for-requires-clause-row
answer_for-requires-clause-row c =
    let fields = c.args.survey.now.fields in
    let sheet = c.args.sheet.now in
    let n = c.loop-row_no.row_no in
    let below : n < length sheet.rows = omega (arith, c.loop-row_no-test.true, c.loop-row_no.auto.row_no-end, c.len-row_no-end.ensures.rows) in
    let rows = all_are_rows fields sheet.columns sheet.row_texts sheet.rows c.requires.sheet.1.values in
    subst (λ (row : List Value). IsRow fields row) (sym c.row-row.ensures)
    (each-at (IsRow fields) sheet.rows n (get_or sheet.rows n []) rows below (get_or_default sheet.rows n [] _ below))

pub push_filled-requires-clause-layout : goal.push_filled-requires-clause-layout
push_filled-requires-clause-layout c = sheet-layout _ _ _ _ c.requires.sheet.1 c.in_ok-layout.ensures.width c.in_ok-layout.ensures.columns

pub push_filled-requires-clause-width : goal.push_filled-requires-clause-width
push_filled-requires-clause-width c =
    ap (λ (t : List (List ℕ)). length t) c.raw.ensures
    ∙ raw-long _ _ _ _ c.requires.sheet.1 (omega (arith, c.loop-row_no-test.true, c.loop-row_no.auto.row_no-end, c.len-row_no-end.ensures.row_texts))
    ∙ sym c.in_ok-layout.ensures.width

pub loop-row_no-preserved : goal.loop-row_no-preserved
loop-row_no-preserved c =
    let survey = c.args.survey.now in
    let sheet = c.args.sheet.now in
    let n = c.loop-row_no.row_no in
    let same : length sheet.row_texts ≡ length sheet.rows = sym c.len-row_no-end.ensures.row_texts ∙ c.len-row_no-end.ensures.rows in
    let below : n < length sheet.rows = omega (arith, c.loop-row_no-test.true, c.loop-row_no.auto.row_no-end, c.len-row_no-end.ensures.rows) in
    let is = subst (λ (row : List Value). IsAnswerFor survey c.args.budget row c.in_ok-answer.answer) c.row-row.ensures c.in_ok-answer.ensures.answer in
    let put = rw (c.raw.ensures, c.in_ok-layout.ensures.columns) at c.in_ok-push_filled.ensures in
    filled-more survey sheet c.args.budget same n c.loop-row_no.writer c.push_filled.new.writer c.loop-row_no.counts c.add.new.self c.in_ok-answer.answer below
    c.loop-row_no.invariant is put c.add.ensures.few c.add.ensures.counts

pub returns : goal.returns
returns c =
    let survey = c.args.survey.now in
    let sheet = c.args.sheet.now in
    let ended : c.loop-row_no.row_no ≡ length sheet.rows =
    omega (arith, c.loop-row_no-test.false, c.loop-row_no.auto.row_no-end, c.len-row_no-end.ensures.rows) in
    record {
      filled = subst (λ (n : ℕ). IsFilledTo survey sheet c.args.budget n c.loop-row_no.writer c.loop-row_no.counts) ended c.loop-row_no.invariant;
    }
