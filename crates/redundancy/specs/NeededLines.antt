-- What it is for a line to be needed.
use Rattle.edit_model.specs.Points.{HasCodesFrom, Point}
use Rattle.edit_model.specs.declared.field.Field.{Field}
use Rattle.edit_line.specs.Lines.{AllHold, LineHolds, LineParts}
use Rattle.std.specs.Prelude.{List}

-- some point, with a code of its domain at each categorical field, meets the lines and not this one
abbrev pub CanFail : List Field → List LineParts → LineParts → Type 0
CanFail fields lines line = (q : Point) × HasCodesFrom 0 fields q × AllHold lines q × (¬ LineHolds line q)
