use Rattle.std.proofs.Common.{◌≡◌, ◌++◌, drop}
use Rattle.panel_files.proofs.PartLaws.{own_from}
use Rattle.panel_files.specs.LastFields.{own_fields}
use Rattle.panel_files.proofs.surveys.own_survey.Given as goal

abbrev pub invariant-loop-number : goal.invariant-loop-number
invariant-loop-number l = l.fields.items ++ own_from l.set l.number (drop l.number l.field-items) ≡ own_fields l.field-items l.set
