use Rattle.std.specs.Prelude.{◌≡◌, List}
use Rattle.edit_model.specs.Points.{Point}
use Rattle.edit_line.specs.Lines.{AllHold, Follows}
use Rattle.edit_line.specs.Sets.{AreCodesIn}
use Rattle.edit_line.specs.Shapes.{Domain, HasCodes, codes_at}
use Rattle.derivation.specs.Premises.{AgreesAt, Premises, usable_lines}
use Rattle.derivation.specs.declared.proved.Proved.{Proved}
use Rattle.derivation.specs.declared.proved.Proved.TheVariants.{Box, Line}

-- what a proof of the line, or of the box, shows: the line follows from the usable lines; and no point at which
-- these hold, and which has the record's values at the kept fields, has its codes in the box
abbrev pub IsShown : Premises → Proved → Type 0
IsShown p (Line line) = Follows (usable_lines p.given p.usable) line
IsShown p (Box code_box) = (point : Point)
    → HasCodes 0 p.shape point → AgreesAt p.row p.kept point → AllHold (usable_lines p.given p.usable) point
    → ¬ AreCodesIn code_box.sets (codes_at p.shape point)

-- the line, or the box, is over the fields of this shape
abbrev pub IsOver : List Domain → Proved → Type 0
IsOver shape (Line line) = line.shape ≡ shape
IsOver shape (Box code_box) = code_box.shape ≡ shape
