use Rattle.std.proofs.Common.{◌≡◌, take}
use Rattle.record_text.specs.Texts.{records_text}
use Rattle.record_text.proofs.writing.write_rows.Given as goal

abbrev pub invariant-loop-texts : goal.invariant-loop-texts
invariant-loop-texts l = l.writer ≡ records_text (take l.texts-index l.rows)
