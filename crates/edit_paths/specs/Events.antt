use Rattle.std.specs.Prelude.{◌≡◌, ℕ, Bool, List, Some, Ok, Err, slice_get}
use Rattle.edit_line.specs.Sums.{fails_at}
use Rattle.edit_line.specs.declared.derived.Derived.{Derived}
use Rattle.edit_line.specs.declared.place.Place.{Place}
use Rattle.linear_elim.specs.Overflows.{IsFirstOverflow}
use Rattle.linear_elim.specs.Systems.{system_of}
use Rattle.edit_paths.specs.Cases.{SearchCase}
use Rattle.edit_paths.specs.Paths.{before_last, changed_numbers, last_field}

-- these are the lines of the path's system
abbrev pub AreLinesOf : SearchCase → List Bool → List Derived → Type 0
AreLinesOf c path lines = system_of c.edits (changed_numbers c path) ≡ Ok lines

-- in the system of the path before its last letter, the first two lines whose combination at the last field
-- leaves the range are these, and it does so first at this place
abbrev pub IsStepOverflow : SearchCase → List Bool → ℕ → ℕ → Place → Type 0
IsStepOverflow c path first second place =
    (lines : List Derived) × AreLinesOf c (before_last path) lines
    × IsFirstOverflow lines (last_field c path) (record { first = first; second = second; place = place })

-- in the path's system, the sum of this line at the record leaves the range at this field
abbrev pub IsTestOverflow : SearchCase → List Bool → ℕ → ℕ → Type 0
IsTestOverflow c path line field =
    (lines : List Derived) × AreLinesOf c path lines
    × ((d : Derived) × (slice_get lines line ≡ Some d) × (fails_at d.line c.row ≡ Err field))
