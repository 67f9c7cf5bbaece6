use Rattle.std.proofs.Common.{◌≡◌, ℕ, Bool, true, false, List, [], ◌∷◌, Result, Ok, Err, if◌then◌else◌, refl}
use Rattle.std.specs.List.{fold}
use Rattle.edit_model.specs.RowPoints.{code_in}
use Rattle.edit_model.specs.Rows.{value_of}
use Rattle.edit_line.specs.Shapes.{shape_of}
use Rattle.categ_combine.specs.Apart.{LieApart}
use Rattle.categ_combine.specs.Covers.{covered_from}
use Rattle.categ_combine.specs.FailingBoxes.{LineFault, failing_from}
use Rattle.categ_combine.specs.Fixing.{fixed_from}
use Rattle.categ_combine.specs.declared.box_from.BoxFrom.{BoxFrom}
use Rattle.categ_combine.proofs.ApartLaws.{apart-covered, apart-failing, apart-fixed}
use Rattle.bound_cert.specs.Paths.{changes}
use Rattle.edit_paths.specs.Cases.{SearchCase}
use Rattle.edit_paths.specs.Paths.{treated_codes}
use Rattle.edit_paths.specs.States.{boxes_after, boxes_along, first_boxes, lines_along, or_empty}

-- The boxes of a path are reduced, so none of them lies inside another.

module _ (c : SearchCase) (path : List Bool) where
  apart-after : (boxes : List BoxFrom) (f : ℕ) → LieApart (boxes_after c path boxes f)
  apart-after boxes f = by (changes c.survey.fields path f)
    where
      by : (b : Bool) → LieApart (if b then covered_from (shape_of c.survey.fields) boxes f else fixed_from (shape_of c.survey.fields) boxes f
          (code_in (value_of c.row f)))
      by true = apart-covered (shape_of c.survey.fields) boxes f
      by false = apart-fixed (shape_of c.survey.fields) boxes f (code_in (value_of c.row f))

  apart-folded : (boxes : List BoxFrom) (fields : List ℕ) → LieApart boxes → LieApart (fold (boxes_after c path) boxes fields)
  apart-folded boxes [] apart = apart
  apart-folded boxes (f ∷ fields) apart = apart-folded (boxes_after c path boxes f) fields (apart-after boxes f)

  apart-first : LieApart (first_boxes c path)
  apart-first = by (failing_from 0 (lines_along c path) c.row []) refl
    where
      by : (r : Result (List BoxFrom) LineFault) → failing_from 0 (lines_along c path) c.row [] ≡ r → LieApart (or_empty r)
      by (Ok boxes) made = apart-failing 0 (lines_along c path) c.row [] boxes tt made
      by (Err fault) made = tt

  pub apart-along : LieApart (boxes_along c path)
  apart-along = apart-folded (first_boxes c path) (treated_codes c path) apart-first
