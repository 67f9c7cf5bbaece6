use Rattle.std.proofs.Common.{◌≡◌, ◌<◌, ℕ, All, length}
use Rattle.std.specs.List.{AllByRecursion}
use Rattle.edit_model.specs.PlainNumbers.{HasPlainNumbers}
use Rattle.donor_measure.specs.Yardsticks.{yardstick_at, yardsticks_of}
use Rattle.donor_search.specs.Decks.{AreSlots, slots_at}
use Rattle.donor_search.specs.declared.slot.Slot.{Slot}
use Rattle.donor_search.proofs.deck.index_of.Given as goal

abbrev pub invariant-loop-field : goal.invariant-loop-field
invariant-loop-field l = record {
  donors : (f : ℕ) → All (λ (s : Slot). s.donor < length l.sheet.rows) (slots_at l.index.items f);
  fields : length l.index.items ≡ l.field;
  slots : AllByRecursion HasPlainNumbers l.sheet.rows → (f : ℕ) → f < l.field
      → AreSlots (yardstick_at (yardsticks_of l.survey.fields) f).scale l.sheet.rows f l.donors (slots_at l.index.items f);
}
