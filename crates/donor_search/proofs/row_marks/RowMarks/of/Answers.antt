use Rattle.std.proofs.Common.{◌≡◌, ◌<◌, ◌∙◌, ◌++◌, [], ℕ, List, length, ap, sym, take, arith, rules}
use Rattle.std.proofs.lemmas.List.{take_all}
use Rattle.edit_model.specs.declared.value.Value.{Value}
use Rattle.edit_model.proofs.RowLaws.{row-length}
use Rattle.record_text.proofs.Refusals.{no_value}
use Rattle.donor_measure.specs.Buckets.{marks_of}
use Rattle.donor_measure.specs.Yardsticks.{yardsticks_of}
use Rattle.donor_measure.specs.declared.yardstick.Yardstick.{Yardstick}
use Rattle.donor_measure.proofs.YardstickLaws.{as_many}
use Rattle.donor_search.specs.CleanRows.{row_at}
use Rattle.donor_search.proofs.CleanLaws.{is_row_at}
use Rattle.donor_search.proofs.MarkTables.{lists_more, row_put}
use Rattle.donor_search.proofs.ProfileLaws.{marks_long}
use Rattle.donor_search.proofs.row_marks.RowMarks.of.Goals as goal

pub push_marks-requires : goal.push_marks-requires
push_marks-requires c =
    let fields = c.args.survey.now.fields in
    let rows = c.args.sheet.now.rows in
    let row_no = c.loop-row_no.row_no in
    let below : row_no < length rows = search rules in
    let l = row-length fields (row_at rows row_no) (is_row_at fields rows row_no c.requires below) in
    ap (λ (ys : List Yardstick). length ys) c.of-yardsticks.ensures ∙ as_many fields ∙ sym l ∙ ap (λ (r : List Value). length r) (sym c.row.ensures)

pub loop-row_no-preserved : goal.loop-row_no-preserved
loop-row_no-preserved c plain =
    let rows = c.args.sheet.now.rows in
    let ys = yardsticks_of c.args.survey.now.fields in
    let row_no = c.loop-row_no.row_no in
    let below : row_no < length rows = search rules in
    let put = row_put c.count.result ys c.of-yardsticks.result rows row_no c.row.result.now c.loop-row_no.marks.items c.push_marks.new.marks.items
    c.of-yardsticks.ensures c.row.ensures below plain c.in_ok-push_marks.ensures.marks in
    let whole : take c.count.result (marks_of ys (row_at rows row_no)) ≡ marks_of ys (row_at rows row_no) =
    take_all c.count.result (marks_of ys (row_at rows row_no))
    (omega (arith, marks_long 0 ys (row_at rows row_no), c.count.ensures.fields, ap (λ (us : List Yardstick). length us) c.of-yardsticks.ensures)) in
    lists_more (marks_of ys) rows row_no [] c.loop-row_no.marks.items c.push_marks.new.marks.items below (c.loop-row_no.invariant plain)
    (put ∙ ap (λ (ms : List ℕ). c.loop-row_no.marks.items ++ ms) whole)

pub returns-in_err-push_marks : goal.returns-in_err-push_marks
returns-in_err-push_marks c = no_value c.from_residual.result _ _ c.from_residual.ensures.1
