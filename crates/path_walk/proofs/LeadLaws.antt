use Rattle.std.proofs.Common.{◌≡◌, ◌≢◌, ◌<◌, ◌≤◌, ◌==◌, ℕ, suc, nat_lt, Bool, true, false, if◌then◌else◌, List, [], ◌∷◌, Option, Some, None}
use Rattle.std.proofs.Common.{Result, Ok, Err, length, refl, sym, ◌∙◌, arith}
use Rattle.std.specs.List.{fold, position}
use Rattle.std.proofs.lemmas.Bool.Decides.{Decides-eqb}
use Rattle.std.proofs.lemmas.Bool.{ltb-false, ltb-true}
use Rattle.edit_line.specs.Boxes.{are_whole}
use Rattle.edit_line.specs.Shapes.{shape_of}
use Rattle.edit_line.specs.Sums.{fails_at}
use Rattle.edit_line.specs.declared.derived.Derived.{Derived}
use Rattle.linear_elim.specs.Systems.{SystemOverflow, system_of}
use Rattle.categ_combine.specs.FailingBoxes.{LineFault, failing_from}
use Rattle.categ_combine.specs.declared.box_from.BoxFrom.{BoxFrom}
use Rattle.bound_cert.specs.Paths.{keeps_bad}
use Rattle.bound_cert.specs.declared.outcome.Event.{Event}
use Rattle.bound_cert.specs.declared.outcome.Event.TheVariants as event
use Rattle.edit_paths.specs.Cases.{SearchCase}
use Rattle.edit_paths.specs.Paths.{changed_numbers, number_count, treated_codes}
use Rattle.edit_paths.specs.States.{asks_kept, boxes_after, closed_by, first_failing, first_whole, state_of, state_with_boxes, state_with_system, step_event}
use Rattle.edit_paths.specs.declared.levels.Level.{Level}
use Rattle.edit_paths.specs.declared.state.PathState.{PathState}
use Rattle.edit_paths.specs.declared.state.PathState.TheVariants.{ClosedBad, ClosedBox, ClosedLine, Overflows}
use Rattle.path_walk.specs.Lists.{HasLists}
use Rattle.path_walk.specs.inner.Histories.{LeadTo}

-- Which lists lead to what closes a path.

module _ (c : SearchCase) (path : List Bool) where
  no_box : (i k : ℕ) (lines : List Derived) → first_failing c path k lines ≡ ClosedBox i → ⊥
  no_box i k [] h = cc h
  no_box i k (d ∷ lines) h = at (asks_kept c path d.line) (fails_at d.line c.row) (no_box i (suc k) lines) h
    where
      at : (asks : Bool) (r : Result Bool ℕ) → (first_failing c path (suc k) lines ≡ ClosedBox i → ⊥)
          → (if asks then closed_by k r (first_failing c path (suc k) lines) else first_failing c path (suc k) lines) ≡ ClosedBox i → ⊥
      at true (Ok true) later h = cc h
      at true (Ok false) later h = later h
      at true (Err f) later h = cc h
      at false r later h = later h

  -- a state of a path that keeps no field without a value, by the two tests of its length
  abbrev by_tests : Bool → Bool → List Derived → Result (List BoxFrom) LineFault → PathState
  by_tests few all lines (Err fault) = if few then first_failing c path 0 lines else Overflows (event.Test fault.line fault.field)
  by_tests few all lines (Ok boxes) =
      if few then first_failing c path 0 lines
      else (if all then first_failing c path 0 lines else first_whole
      (position (λ (b : BoxFrom). are_whole (shape_of c.survey.fields) b.code_box.sets) (fold (boxes_after c path) boxes (treated_codes c path))))

  tested : (P : PathState → Type 0) → P ClosedBad → ((e : Event) → P (Overflows e))
      → ((lines : List Derived) (r : Result (List BoxFrom) LineFault)
      → P (by_tests (nat_lt (length path) (number_count c)) (length path == number_count c) lines r)) → P (state_of c path)
  tested P bad over by = at (keeps_bad c.survey.fields c.row path) (system_of c.edits (changed_numbers c path))
    where
      lined : (lines : List Derived) (r : Result (List BoxFrom) LineFault)
          → P (by_tests (nat_lt (length path) (number_count c)) (length path == number_count c) lines r)
          → P (if nat_lt (length path) (number_count c) then first_failing c path 0 lines else state_with_boxes c path lines r)
      lined lines (Ok boxes) h = h
      lined lines (Err fault) h = h

      at : (b : Bool) (r : Result (List Derived) SystemOverflow) → P (if b then ClosedBad else state_with_system c path r)
      at true r = bad
      at false (Err o) = over (step_event o.step)
      at false (Ok lines) = lined lines (failing_from 0 lines c.row []) (by lines (failing_from 0 lines c.row []))

  -- a line closes paths alone that say something of no categorical field
  line-short : (i : ℕ) → state_of c path ≡ ClosedLine i → number_count c < length path → ⊥
  line-short i is long =
      tested (λ s. s ≡ ClosedLine i → ⊥) (λ h. cc h) (λ e h. cc h)
      (λ lines r. at (nat_lt (length path) (number_count c)) (length path == number_count c) lines r refl refl) is
    where
      at : (few all : Bool) (lines : List Derived) (r : Result (List BoxFrom) LineFault) → nat_lt (length path) (number_count c) ≡ few
          → (length path == number_count c) ≡ all → by_tests few all lines r ≡ ClosedLine i → ⊥
      at true all lines r few_is all_is h = absurd (omega (arith, ltb-true (length path) (number_count c) few_is, long))
      at false true lines r few_is all_is h = absurd (omega (arith, long, (Decides-eqb (length path) (number_count c)).0 all_is))
      at false false lines (Err fault) few_is all_is h = cc h
      at false false lines (Ok boxes) few_is all_is h =
          whole (position (λ (b : BoxFrom). are_whole (shape_of c.survey.fields) b.code_box.sets) (fold (boxes_after c path) boxes (treated_codes c path))) h
        where
          whole : (o : Option ℕ) → first_whole o ≡ ClosedLine i → ⊥
          whole None h = cc h
          whole (Some k) h = cc h

  -- and a box those alone that do
  box-long : (i : ℕ) → state_of c path ≡ ClosedBox i → length path ≤ number_count c → ⊥
  box-long i is short =
      tested (λ s. s ≡ ClosedBox i → ⊥) (λ h. cc h) (λ e h. cc h)
      (λ lines r. at (nat_lt (length path) (number_count c)) (length path == number_count c) lines r refl refl) is
    where
      at : (few all : Bool) (lines : List Derived) (r : Result (List BoxFrom) LineFault) → nat_lt (length path) (number_count c) ≡ few
          → (length path == number_count c) ≡ all → by_tests few all lines r ≡ ClosedBox i → ⊥
      at true all lines (Ok boxes) few_is all_is h = no_box i 0 lines h
      at true all lines (Err fault) few_is all_is h = no_box i 0 lines h
      at false true lines (Ok boxes) few_is all_is h = no_box i 0 lines h
      at false true lines (Err fault) few_is all_is h = cc h
      at false false lines r few_is all_is h = absurd (grind (arith, few_is, short, other))
        where
          other : length path ≢ number_count c
          other same = absurd (cc (sym all_is ∙ (Decides-eqb (length path) (number_count c)).1 same))

  -- so the path's lists lead to what closes it
  pub leads-to : (state : PathState) (levels : List Level) → state_of c path ≡ state → HasLists c path levels → LeadTo c path state levels
  leads-to state levels is lists = by (nat_lt (number_count c) (length path)) refl
    where
      by : (b : Bool) → nat_lt (number_count c) (length path) ≡ b → LeadTo c path state levels
      by true e = let long = ltb-true (number_count c) (length path) e in
          record { line = λ i s. absurd (line-short i (is ∙ s) long); box = λ i s. (lists.boxes long).lists }
      by false e = let short = ltb-false (number_count c) (length path) e in
          record { line = λ i s. lists.lines short; box = λ i s. absurd (box-long i (is ∙ s) short) }
