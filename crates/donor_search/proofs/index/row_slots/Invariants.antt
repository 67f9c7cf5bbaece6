use Rattle.std.proofs.Common.{◌≡◌, ◌<◌, All, length, map, take}
use Rattle.std.specs.List.{AllByRecursion}
use Rattle.edit_model.specs.PlainNumbers.{HasPlainNumbers}
use Rattle.donor_search.specs.Decks.{slot_of}
use Rattle.donor_search.specs.declared.slot.Slot.{Slot}
use Rattle.donor_search.proofs.index.row_slots.Given as goal

abbrev pub invariant-loop-donor : goal.invariant-loop-donor
invariant-loop-donor l = record {
  slots : AllByRecursion HasPlainNumbers l.sheet.rows → l.slots.items ≡ map (slot_of l.scale l.sheet.rows l.field) (take l.donor-index l.donors);
  donors : All (λ (s : Slot). s.donor < length l.sheet.rows) l.slots.items;
}
