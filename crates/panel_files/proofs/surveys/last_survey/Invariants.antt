use Rattle.std.proofs.Common.{◌≡◌, ◌++◌, drop, map}
use Rattle.panel_files.proofs.PartLaws.{last_from}
use Rattle.panel_files.specs.LastFields.{last_fields, under_last_name}
use Rattle.panel_files.proofs.surveys.last_survey.Given as goal

abbrev pub invariant-loop-number : goal.invariant-loop-number
invariant-loop-number l = l.fields.items ++ map under_last_name (last_from l.set l.number (drop l.number l.field-items)) ≡ last_fields l.field-items l.set
