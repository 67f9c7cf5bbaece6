use Rattle.std.proofs.Common.{◌≡◌, ◌<◌, ℕ, Some, get_or, length}
use Rattle.std.specs.List.{AllByRecursion}
use Rattle.edit_model.specs.PlainNumbers.{HasPlainNumbers}
use Rattle.donor_search.specs.Decks.{DeckParts}
use Rattle.record_pieces.specs.Rests.{IsDeckIn}
use Rattle.record_pieces.proofs.decks.decks_by.Given as goal

abbrev pub invariant-loop-code : goal.invariant-loop-code
invariant-loop-code l = record {
  as_many : length l.decks.items ≡ l.code;
  each : AllByRecursion HasPlainNumbers l.sheet.rows → (class : ℕ) (d : DeckParts) → class < l.code
      → IsDeckIn l.survey l.sheet.rows (Some l.field) class (get_or l.decks.items class d);
}
