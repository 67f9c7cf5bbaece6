use Rattle.std.proofs.Common.{◌≡◌, ◌-◌}
use Rattle.proof_grammar.specs.inner.Readings.{read_many}
use Rattle.proof_grammar.specs.inner.RowReading.{row_reading}
use Rattle.proof_text.proofs.ReadingLaws.{onto}
use Rattle.proof_text.proofs.reading.places.next_places.Given as goal

abbrev pub invariant-loop : goal.invariant-loop
invariant-loop l = (onto l.places.items (read_many (row_reading l.shared) (l.count - l.counter) l.lines.left) ≡ read_many
    (row_reading l.shared) l.fn.count l.fn.lines.left) × (l.lines.all ≡ l.fn.lines.all)
