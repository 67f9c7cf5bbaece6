use Rattle.std.proofs.Common.{take}
use Rattle.record_text.specs.Values.{AreValues}
use Rattle.record_text.proofs.reading.read_values.Given as goal

abbrev pub invariant-loop-number : goal.invariant-loop-number
invariant-loop-number l = AreValues (take l.number l.fields) (take l.number l.columns) l.texts l.values.items
