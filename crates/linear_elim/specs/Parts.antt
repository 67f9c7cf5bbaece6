use Rattle.std.specs.Prelude.{◌≡◌, ◌↔◌, ℕ, true, List, All, pos}
use Rattle.edit_model.specs.FieldSets.{has_number}
use Rattle.edit_model.specs.Points.{Point}
use Rattle.edit_line.specs.EditSets.{EditsParts, lines_without}
use Rattle.edit_line.specs.Lines.{AllHold, HaveShape, LineParts, factor}
use Rattle.edit_line.specs.Reductions.{lines_of}
use Rattle.edit_line.specs.declared.derived.Derived.{Derived}
use Rattle.linear_elim.specs.Origins.{HaveOrigins}
use Rattle.linear_elim.specs.PointChanges.{CanHoldIn}
use Rattle.linear_elim.specs.Systems.{IsSystem, SystemParts, chosen_fields}

-- the system of these edits, fields and lines
abbrev pub parts_of_system : EditsParts → ℕ → List Derived → SystemParts
parts_of_system edits fields lines = record { edits = edits; fields = fields; lines = lines }

-- the lines are over the fields of the edits
abbrev pub IsOver : SystemParts → Type 0
IsOver system = HaveShape system.edits.shape (lines_of system.lines)

-- at each point the lines hold exactly where some values at the fields of the set, in place of the point's own, make all edits hold
abbrev pub AreLifted : EditsParts → ℕ → List Derived → Type 0
AreLifted edits fields lines =
    (p : Point) → AllHold (lines_of lines) p ↔ CanHoldIn (lines_without edits.lines) (chosen_fields edits.shape fields) p

-- the lines of a system are those of its edits and fields
abbrev pub Lifts : SystemParts → Type 0
Lifts system = AreLifted system.edits system.fields system.lines

-- the field stands in none of the lines
abbrev pub AreFlat : ℕ → List LineParts → Type 0
AreFlat f lines = All (λ line. factor line f ≡ pos 0) lines

-- the fields of the set stand in none of the lines
abbrev pub IsFlat : SystemParts → Type 0
IsFlat system = (f : ℕ) → has_number system.fields f ≡ true → AreFlat f (lines_of system.lines)

-- what is known of each system that is made
pub record IsMade (made : SystemParts) : Type 0 where
  pub system : IsSystem made
  pub over : IsOver made
  pub lifts : Lifts made
  pub flat : IsFlat made
  pub origins : HaveOrigins made
