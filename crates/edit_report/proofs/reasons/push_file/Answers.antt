use Rattle.std.proofs.Common.{List, [], ap, arith, length, ◌∙◌, ◌<◌, ◌∷◌, sym, ℕ}
use Rattle.record_text.proofs.WritingLaws.{records_text-append}
use Rattle.edit_report.specs.Reasons.{reasons_from, reasons_header}
use Rattle.edit_report.proofs.SheetLaws.{raw-long, sheet-layout}
use Rattle.edit_report.proofs.WrittenLaws.{reasons-all, reasons-more}
use Rattle.edit_report.proofs.reasons.push_file.Goals as goal

pub loop-row_no-init : goal.loop-row_no-init
loop-row_no-init c =
    rw (c.in_ok-push_reasons_header.ensures, c.requires.empty)
    (sym (records_text-append (reasons_header ∷ []) (reasons_from c.args.survey.now.fields c.args.sheet.now.columns 0 c.args.sheet.now.row_texts
    c.args.ends.now)))

pub push_reasons-requires-clause-layout : goal.push_reasons-requires-clause-layout
push_reasons-requires-clause-layout c = sheet-layout _ _ _ _ c.requires.sheet.1 c.in_ok-layout.ensures.width c.in_ok-layout.ensures.columns

pub push_reasons-requires-clause-width : goal.push_reasons-requires-clause-width
push_reasons-requires-clause-width c = ap (λ (t : List (List ℕ)). length t) c.raw.ensures ∙ raw-long _ _ _ _ c.requires.sheet.1
    (omega (arith, c.loop-row_no-test.true, c.loop-row_no.auto.row_no-end, c.len-row_no-end.ensures.row_texts)) ∙ sym c.in_ok-layout.ensures.width

pub loop-row_no-preserved : goal.loop-row_no-preserved
loop-row_no-preserved c =
    let inv = c.loop-row_no.invariant in
    let fields = c.args.survey.now.fields in
    let in_row_texts : c.loop-row_no.row_no < length c.args.sheet.now.row_texts = omega (arith, c.loop-row_no-test.true, c.len-row_no-end.ensures.row_texts) in
    let in_ends : c.loop-row_no.row_no < length c.args.ends.now = omega (
      arith,
      c.loop-row_no-test.true,
      c.len-row_no-end.ensures.rows,
      c.requires.ends.one_each,
    ) in
    rw (c.in_ok-push_reasons.ensures, c.in_ok-layout.ensures.columns, c.raw.ensures)
    (reasons-more fields c.args.sheet.now.columns c.args.sheet.now.row_texts c.args.ends.now c.loop-row_no.row_no c.index-ends-row_no.result
    c.loop-row_no.writer _ in_row_texts in_ends c.index-ends-row_no.is inv)

pub returns : goal.returns
returns c =
    reasons-all c.args.survey.now.fields c.args.sheet.now.columns c.args.sheet.now.row_texts c.args.ends.now c.loop-row_no.row_no c.loop-row_no.writer _
    (omega (arith, c.loop-row_no-test.false, c.len-row_no-end.ensures.rows, c.requires.ends.one_each)) c.loop-row_no.invariant
