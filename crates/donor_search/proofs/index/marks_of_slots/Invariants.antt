use Rattle.std.proofs.Common.{◌≡◌, ◌++◌, ◌*◌, drop, length, min}
use Rattle.std.specs.List.{AllByRecursion, flat_map}
use Rattle.edit_model.specs.PlainNumbers.{HasPlainNumbers}
use Rattle.donor_measure.specs.Yardsticks.{yardsticks_of}
use Rattle.donor_search.specs.Decks.{slot_first_marks}
use Rattle.donor_search.proofs.index.marks_of_slots.Given as goal

abbrev pub invariant-loop-slot : goal.invariant-loop-slot
invariant-loop-slot l = record {
  size : length l.marks.items ≡ l.slot-index * min l.most (length l.survey.fields);
  marks : AllByRecursion HasPlainNumbers l.sheet.rows
      → l.marks.items ++ flat_map (slot_first_marks l.most (yardsticks_of l.survey.fields) l.sheet.rows) (drop l.slot-index l.slots) ≡ flat_map
      (slot_first_marks l.most (yardsticks_of l.survey.fields) l.sheet.rows) l.slots;
}
