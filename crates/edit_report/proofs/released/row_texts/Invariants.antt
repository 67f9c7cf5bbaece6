use Rattle.std.proofs.Common.{◌≡◌, ◌++◌, drop}
use Rattle.edit_model.specs.FieldSets.{has_number}
use Rattle.edit_report.specs.Released.{texts_from}
use Rattle.edit_report.proofs.released.row_texts.Given as goal

abbrev pub invariant-loop-column : goal.invariant-loop-column
invariant-loop-column l =
    l.texts ++ texts_from l.survey.fields l.layout.columns (has_number l.fn.changed) l.new l.column (drop l.column l.read)
    ≡ texts_from l.survey.fields l.layout.columns (has_number l.fn.changed) l.new 0 l.read
