use Rattle.std.specs.Prelude.{◌≡◌, ℕ, ◌+◌, ◌<◌, ◌≤◌, Bool, false, true, List, Ok, Option, IfSome, Result, length}
use Rattle.std.specs.Arc.{arc_value}
use Rattle.std.specs.declared.alloc.Global.{Global}
use Rattle.std.specs.declared.sync.Arc.{Arc}
use Rattle.edit_model.specs.FieldSets.{set_of}
use Rattle.edit_line.specs.EditSets.{edits_of}
use Rattle.edit_line.specs.Shapes.{shape_of}
use Rattle.edit_line.specs.declared.derived.Derived.{Derived}
use Rattle.linear_elim.specs.Helds.{system_held}
use Rattle.linear_elim.specs.Systems.{SystemOverflow, system_of}
use Rattle.linear_elim.specs.declared.held.Held.{Held}
use Rattle.edit_paths.specs.Cases.{SearchCase}
use Rattle.edit_paths.specs.Paths.{before_last, changed_numbers, number_count}
use Rattle.edit_paths.specs.States.{boxes_along}
use Rattle.edit_paths.specs.declared.state.PathState.{PathState}
use Rattle.edit_paths.specs.declared.state.PathState.TheVariants.{ClosedBad, Overflows}
use Rattle.path_walk.specs.declared.looks.Basis.{Basis}
use Rattle.path_walk.specs.declared.looks.Basis.TheVariants.{Boxes, Lines}
use Rattle.path_walk.specs.declared.looks.Look.{Look}

-- the lines of a shared system
abbrev pub shared_lines : Arc Held Global → List Derived
shared_lines system = (system_held (arc_value system)).lines

-- the system of the numerical fields that the path changes
abbrev pub path_system : SearchCase → List Bool → Result (List Derived) SystemOverflow
path_system c path = system_of c.edits (changed_numbers c path)

-- this is the path's system: that of the edits without the numerical fields that the path changes
pub record IsPathSystem (c : SearchCase) (path : List Bool) (held : Held) : Type 0 where
  pub edits : (system_held held).edits ≡ edits_of (shape_of c.survey.fields) c.edits
  pub fields : (system_held held).fields ≡ set_of (changed_numbers c path)
  pub lines : path_system c path ≡ Ok (system_held held).lines

-- the basis is right for the path: the lines of its system, or, where it says something of all numerical fields, its boxes
abbrev pub IsBasis : SearchCase → List Bool → Basis → Type 0
IsBasis c path (Lines system) = (length path < number_count c) × IsPathSystem c path (arc_value system)
IsBasis c path (Boxes boxes) = (number_count c ≤ length path) × (arc_value boxes ≡ boxes_along c path)

-- the basis is right for the path before its last letter
abbrev pub IsBasisBefore : SearchCase → List Bool → Basis → Type 0
IsBasisBefore c path (Lines system) = (length path ≤ number_count c) × IsPathSystem c (before_last path) (arc_value system)
IsBasisBefore c path (Boxes boxes) = (number_count c < length path) × (arc_value boxes ≡ boxes_along c (before_last path))

-- whether a look into a path of this state has the path's own basis: none is made where it keeps a field without a value, or where
-- a number leaves the range
abbrev pub has_basis : PathState → Bool
has_basis ClosedBad = false
has_basis (Overflows e) = false
has_basis _ = true

-- the basis, if there is one, is right for the path
abbrev pub IsKnownBasis : SearchCase → List Bool → Option Basis → Type 0
IsKnownBasis c path basis = IfSome basis (IsBasis c path)

-- how many lines or boxes the basis has
abbrev pub size_of : Basis → ℕ
size_of (Lines system) = length (shared_lines system)
size_of (Boxes boxes) = length (arc_value boxes)

-- both bases have the same lines, or the same boxes
abbrev pub IsSame : Basis → Basis → Type 0
IsSame (Lines first) (Lines second) = arc_value second ≡ arc_value first
IsSame (Boxes first) (Boxes second) = arc_value second ≡ arc_value first
IsSame _ _ = ⊥

-- the basis is that of the look, where it is the path's own, and its lines or boxes took their room
pub record SharesBasis (look : Look) (before after : ℕ) (basis : Basis) : Type 0 where
  pub own : has_basis look.state ≡ true
  pub same : IsSame look.basis basis
  pub room : after + size_of basis ≡ before
