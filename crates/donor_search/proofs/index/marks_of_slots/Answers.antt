use Rattle.std.proofs.Common.{◌≡◌, ◌<◌, ◌∙◌, ◌+◌, ◌*◌, ℕ, List, length, min, ap, sym, arith}
use Rattle.edit_model.specs.declared.value.Value.{Value}
use Rattle.edit_model.proofs.RowLaws.{row-length}
use Rattle.donor_measure.specs.Yardsticks.{yardsticks_of}
use Rattle.donor_measure.specs.declared.yardstick.Yardstick.{Yardstick}
use Rattle.donor_measure.proofs.YardstickLaws.{as_many}
use Rattle.donor_search.specs.CleanRows.{row_at}
use Rattle.donor_search.specs.Decks.{slot_at, slot_first_marks}
use Rattle.donor_search.specs.declared.slot.Slot.{Slot}
use Rattle.donor_search.proofs.CleanLaws.{is_row_at}
use Rattle.donor_search.proofs.MarkTables.{lists_more, row_put}
use Rattle.donor_search.proofs.index.marks_of_slots.Goals as goal

pub push_marks-requires : goal.push_marks-requires
push_marks-requires c =
    let fields = c.args.survey.now.fields in
    let rows = c.args.sheet.now.rows in
    let donor : ℕ = (slot_at c.args.slots.now c.loop-slot.slot-index).donor in
    let below : donor < length rows = c.requires.donors c.loop-slot.slot-index (record { bucket = 0; donor = 0 }) c.loop-slot-test.true in
    let l = row-length fields (row_at rows donor) (is_row_at fields rows donor c.requires.rows below) in
    ap (λ (ys : List Yardstick). length ys) c.of-yardsticks.ensures ∙ as_many fields ∙ sym l ∙ ap (λ (r : List Value). length r) (sym c.row.ensures)

pub loop-slot-preserved : goal.loop-slot-preserved
loop-slot-preserved c =
    let fields = c.args.survey.now.fields in
    let rows = c.args.sheet.now.rows in
    let ys = yardsticks_of fields in
    let slots = c.args.slots.now in
    let index = c.loop-slot.slot-index in
    let inv = c.loop-slot.invariant in
    let none : Slot = record { bucket = 0; donor = 0 } in
    let donor : ℕ = (slot_at slots index).donor in
    let below : donor < length rows = c.requires.donors index none c.loop-slot-test.true in
    let many : min c.args.most (length c.of-yardsticks.result) ≡ min c.args.most (length fields) =
    ap (min c.args.most) (ap (λ (us : List Yardstick). length us) c.of-yardsticks.ensures ∙ as_many fields) in
    record {
      size = c.in_ok-push_marks.ensures.size ∙ ap (λ n. length c.loop-slot.marks.items + n) many ∙ ap (λ n. n + min c.args.most (length fields)) inv.size
          ∙ one_more index (min c.args.most (length fields));
      marks = λ plain. lists_more (slot_first_marks c.args.most ys rows) slots index none c.loop-slot.marks.items c.push_marks.new.marks.items
          c.loop-slot-test.true (inv.marks plain)
          (row_put c.args.most ys c.of-yardsticks.result rows donor c.row.result.now c.loop-slot.marks.items c.push_marks.new.marks.items
          c.of-yardsticks.ensures c.row.ensures below plain c.in_ok-push_marks.ensures.marks);
    }
  where
    one_more : (n m : ℕ) → n * m + m ≡ (n + 1) * m
    one_more n m = omega arith
