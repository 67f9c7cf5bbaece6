use Rattle.std.proofs.Common.{◌≡◌, ◌-◌}
use Rattle.proof_grammar.specs.inner.Readings.{read_many}
use Rattle.proof_text.proofs.ReadingLaws.{onto}
use Rattle.proof_text.proofs.reading.parts.next_parts.Given as goal

abbrev pub invariant-loop : goal.invariant-loop
invariant-loop g l = (onto l.parts.items (read_many (g.P.Part.reading l.shared) (l.count - l.counter) l.lines.left) ≡ read_many
    (g.P.Part.reading l.shared) l.fn.count l.fn.lines.left) × (l.lines.all ≡ l.fn.lines.all)
