use Rattle.std.proofs.Common.{◌≡◌, ◌≢◌, ◌==◌, ℕ, suc, Bool, true, false, nat_lt, if◌then◌else◌, List, [], ◌∷◌, Option, Some, None, Result, Ok, Err, length}
use Rattle.std.proofs.Common.{refl, sym, ap, ◌∙◌}
use Rattle.std.specs.List.{fold, position}
use Rattle.edit_line.specs.Boxes.{are_whole}
use Rattle.edit_line.specs.Shapes.{shape_of}
use Rattle.edit_line.specs.Sums.{fails_at}
use Rattle.edit_line.specs.declared.derived.Derived.{Derived}
use Rattle.linear_elim.specs.Systems.{SystemOverflow, system_of}
use Rattle.categ_combine.specs.FailingBoxes.{LineFault, failing_from}
use Rattle.categ_combine.specs.declared.box_from.BoxFrom.{BoxFrom}
use Rattle.bound_cert.specs.Paths.{keeps_bad}
use Rattle.edit_paths.specs.Cases.{SearchCase}
use Rattle.edit_paths.specs.Paths.{changed_numbers, number_count, treated_codes}
use Rattle.edit_paths.specs.States.{asks_kept, boxes_after, closed_by, first_failing, first_whole, state_of, state_with_boxes, state_with_system}
use Rattle.edit_paths.specs.declared.state.PathState.{PathState}
use Rattle.edit_paths.specs.declared.state.PathState.TheVariants.{ClosedBad}

-- The state of a path tells whether it keeps a field without a value.

module _ (c : SearchCase) (path : List Bool) where
  -- a path in another state keeps none
  pub not-bad : (s : PathState) → state_of c path ≡ s → s ≢ ClosedBad → keeps_bad c.survey.fields c.row path ≡ false
  not-bad s e other = by (keeps_bad c.survey.fields c.row path) refl
    where
      by : (b : Bool) → keeps_bad c.survey.fields c.row path ≡ b → b ≡ false
      by true bad = absurd (other (sym e ∙ ap (λ b. if b then ClosedBad else state_with_system c path (system_of c.edits (changed_numbers c path))) bad))
      by false bad = refl

  no_lines : (i : ℕ) (lines : List Derived) → first_failing c path i lines ≡ ClosedBad → ⊥
  no_lines i [] h = cc h
  no_lines i (d ∷ lines) h = at (asks_kept c path d.line) (fails_at d.line c.row) (no_lines (suc i) lines) h
    where
      at : (asks : Bool) (r : Result Bool ℕ) → (first_failing c path (suc i) lines ≡ ClosedBad → ⊥)
          → (if asks then closed_by i r (first_failing c path (suc i) lines) else first_failing c path (suc i) lines) ≡ ClosedBad → ⊥
      at true (Ok true) later h = cc h
      at true (Ok false) later h = later h
      at true (Err f) later h = cc h
      at false r later h = later h

  no_boxes : (lines : List Derived) (r : Result (List BoxFrom) LineFault) → state_with_boxes c path lines r ≡ ClosedBad → ⊥
  no_boxes lines (Err fault) h = cc h
  no_boxes lines (Ok boxes) h = at (length path == number_count c) (position (λ (b : BoxFrom). are_whole (shape_of c.survey.fields) b.code_box.sets)
      (fold (boxes_after c path) boxes (treated_codes c path))) h
    where
      at : (b : Bool) (o : Option ℕ) → (if b then first_failing c path 0 lines else first_whole o) ≡ ClosedBad → ⊥
      at true o h = no_lines 0 lines h
      at false None h = cc h
      at false (Some i) h = cc h

  -- and one that is closed so keeps one
  pub is-bad : state_of c path ≡ ClosedBad → keeps_bad c.survey.fields c.row path ≡ true
  is-bad e = by (keeps_bad c.survey.fields c.row path) refl
    where
      no_system : (r : Result (List Derived) SystemOverflow) → state_with_system c path r ≡ ClosedBad → ⊥
      no_system (Err o) h = cc h
      no_system (Ok lines) h = at (nat_lt (length path) (number_count c)) h
        where
          at : (b : Bool) → (if b then first_failing c path 0 lines else state_with_boxes c path lines (failing_from 0 lines c.row [])) ≡ ClosedBad → ⊥
          at true h = no_lines 0 lines h
          at false h = no_boxes lines (failing_from 0 lines c.row []) h

      by : (b : Bool) → keeps_bad c.survey.fields c.row path ≡ b → b ≡ true
      by true bad = refl
      by false bad =
          absurd (no_system (system_of c.edits (changed_numbers c path))
          (sym (ap (λ b. if b then ClosedBad else state_with_system c path (system_of c.edits (changed_numbers c path))) bad) ∙ e))
