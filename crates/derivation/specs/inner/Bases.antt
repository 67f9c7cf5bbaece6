use Rattle.std.specs.Prelude.{◌≡◌, ℕ, List, length}
use Rattle.edit_model.specs.Rows.{IsRow}
use Rattle.edit_line.specs.Lines.{AreOver}
use Rattle.edit_line.specs.Shapes.{Domain, shape_of, whole_sets}
use Rattle.derivation.specs.Premises.{HasKept, Premises, premises_over}
use Rattle.derivation.specs.declared.basis.Basis.{Basis}

-- what the steps may build on
abbrev pub premises : Basis → Premises
premises basis = premises_over basis.survey.now basis.given.now basis.usable.now basis.row.now basis.kept

-- the shape that all lines and boxes of the steps are over
abbrev pub shape_in : Basis → List Domain
shape_in basis = shape_of basis.survey.now.fields

-- the set of all codes of each categorical field
abbrev pub wholes_in : Basis → List ℕ
wholes_in basis = whole_sets (shape_in basis)

-- its parts fit each other
pub record IsBasis (basis : Basis) : Type 0 where
  pub lists : length basis.given.now ≡ length basis.usable.now
  pub over : AreOver (shape_in basis) basis.given.now
  pub row : IsRow basis.survey.now.fields basis.row.now
  pub kept : HasKept basis.row.now basis.kept
