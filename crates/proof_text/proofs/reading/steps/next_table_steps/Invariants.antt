use Rattle.std.proofs.Common.{◌≡◌, ◌-◌}
use Rattle.proof_grammar.specs.inner.Readings.{read_line, read_many}
use Rattle.proof_grammar.specs.inner.StepReading.{table_step_in}
use Rattle.proof_text.proofs.ReadingLaws.{onto}
use Rattle.proof_text.proofs.reading.steps.next_table_steps.Given as goal

abbrev pub invariant-loop : goal.invariant-loop
invariant-loop l =
    (onto l.steps.items (read_many (read_line table_step_in) (l.count - l.counter) l.lines.left) ≡ read_many
    (read_line table_step_in) l.fn.count l.fn.lines.left)
    × (l.lines.all ≡ l.fn.lines.all)
