use Rattle.std.proofs.Common.{take}
use Rattle.record_text.specs.Values.{AreRows}
use Rattle.record_text.proofs.reading.rows_of.Given as goal

abbrev pub invariant-loop-texts : goal.invariant-loop-texts
invariant-loop-texts l = AreRows l.survey.fields l.columns (take l.texts-index l.row_texts) l.rows.items
