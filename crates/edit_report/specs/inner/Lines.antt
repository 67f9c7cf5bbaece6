-- The lines of the reasons file.
use Rattle.std.specs.Prelude.{ℕ, List, Some}
use Rattle.edit_model.specs.declared.field.Field.{Field}
use Rattle.back_subst.specs.declared.gift.Gift.{Gift}
use Rattle.edit_report.specs.Reasons.{changed_line, lines_with}
use Rattle.edit_report.specs.declared.reasons.ChangedField.{ChangedField}
use Rattle.edit_report.specs.declared.reasons.Record.{Record}
use Rattle.edit_report.specs.Layouts.{LayoutParts}

-- the lines of a record that was given values
abbrev pub gift_lines : List Field → LayoutParts → Record → Gift → List (List (List ℕ))
gift_lines fields layout r gift = lines_with fields layout.columns r.number r.read.now r.end.now.proof r.end.now.donor (Some gift)

-- the line of a changed field of a record
abbrev pub field_line : List Field → LayoutParts → Record → ChangedField → List (List ℕ)
field_line fields layout r change =
    changed_line fields layout.columns r.number r.read.now r.end.now.donor change.new.now change.field change.how
