use Rattle.std.proofs.Common.{◌≡◌, take}
use Rattle.csv.specs.Records.{fields_of}
use Rattle.record_text.proofs.texts.Texts.of_record.Given as goal

abbrev pub invariant-loop-text : goal.invariant-loop-text
invariant-loop-text l = (l.text-iterator.row.now ≡ l.csv_record) × (l.copy ≡ take l.text-iterator.at (fields_of l.csv_record))
