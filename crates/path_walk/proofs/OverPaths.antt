use Rattle.std.proofs.Common.{◌≡◌, List, Bool, [], Result, Ok, Err, refl, arith}
use Rattle.edit_line.specs.Shapes.{shape_of}
use Rattle.edit_line.specs.declared.derived.Derived.{Derived}
use Rattle.linear_elim.specs.Systems.{SystemOverflow, system_of}
use Rattle.categ_combine.specs.BoxLists.{AreBoxesOver}
use Rattle.categ_combine.specs.FailingBoxes.{LineFault, failing_from}
use Rattle.categ_combine.specs.declared.box_from.BoxFrom.{BoxFrom}
use Rattle.categ_combine.proofs.OverLaws.{over-failing}
use Rattle.edit_paths.specs.Cases.{SearchCase, IsCase}
use Rattle.edit_paths.specs.Paths.{changed_numbers, treated_codes}
use Rattle.edit_paths.specs.States.{boxes_along, first_boxes, or_empty}
use Rattle.edit_paths.proofs.CaseSystems.{system-over}
use Rattle.edit_paths.proofs.PathBoxes.{along-over}
use Rattle.path_walk.proofs.HistoryLaws.{line-shapes}

-- The boxes of a path are over the survey's fields.

module _ (c : SearchCase) (is : IsCase c) (path : List Bool) where
  first-over : AreBoxesOver (shape_of c.survey.fields) (first_boxes c path)
  first-over = by (system_of c.edits (changed_numbers c path)) refl
    where
      boxed : (lines : List Derived) → system_of c.edits (changed_numbers c path) ≡ Ok lines → (r : Result (List BoxFrom) LineFault)
          → failing_from 0 lines c.row [] ≡ r → AreBoxesOver (shape_of c.survey.fields) (or_empty r)
      boxed lines made (Ok boxes) told =
          over-failing (shape_of c.survey.fields) 0 lines c.row [] boxes
          (line-shapes (shape_of c.survey.fields) lines (system-over c is (changed_numbers c path) lines made)) (λ k b below. absurd (omega arith)) told
      boxed lines made (Err fault) told = λ k b below. absurd (omega arith)

      none : (r : Result (List BoxFrom) LineFault) → failing_from 0 [] c.row [] ≡ r → AreBoxesOver (shape_of c.survey.fields) (or_empty r)
      none (Ok boxes) told =
          over-failing (shape_of c.survey.fields) 0 [] c.row [] boxes (λ k d below. absurd (omega arith)) (λ k b below. absurd (omega arith)) told
      none (Err fault) told = λ k b below. absurd (omega arith)

      by : (r : Result (List Derived) SystemOverflow) → system_of c.edits (changed_numbers c path) ≡ r
          → AreBoxesOver (shape_of c.survey.fields) (or_empty (failing_from 0 (or_empty r) c.row []))
      by (Ok lines) made = boxed lines made (failing_from 0 lines c.row []) refl
      by (Err overflow) made = none (failing_from 0 [] c.row []) refl

  pub over-along : AreBoxesOver (shape_of c.survey.fields) (boxes_along c path)
  over-along = along-over c path (first_boxes c path) (treated_codes c path) first-over
