use Rattle.std.proofs.Common.{◌≡◌, ◌==◌, ◌++◌, ℕ, zero, suc, ◌<◌, ◌≤◌, nat_lt, Bool, true, false, if◌then◌else◌, List, [], ◌∷◌, Option, Some, None, Result, Ok}
use Rattle.std.proofs.Common.{Err, length, slice_get, slice_index_or, take, refl, sym, ap, ◌∙◌, subst, arith}
use Rattle.std.specs.List.{filter, fold, position}
use Rattle.std.proofs.Math.Seq.{take-length, take-suc}
use Rattle.std.proofs.lemmas.List.{get_or_append_left, get_or_past, length-take-le, nil_from_length}
use Rattle.std.proofs.lemmas.Bool.{ltb-false, ltb-true}
use Rattle.foundation.specs.Results.{◌>>=◌, fault_as}
use Rattle.edit_model.specs.Corrections.{path_order}
use Rattle.edit_line.specs.Boxes.{are_whole}
use Rattle.edit_line.specs.Shapes.{code_fields, number_fields, shape_of}
use Rattle.edit_line.specs.Sums.{fails_at}
use Rattle.edit_line.specs.declared.derived.Derived.{Derived}
use Rattle.edit_line.specs.declared.place.Place.{Place}
use Rattle.edit_line.proofs.ListPlaces.{StandsAt, first-at, later-at, whole-at}
use Rattle.linear_elim.specs.Overflows.{IsFirstOverflow}
use Rattle.linear_elim.specs.Steps.{StepOverflow, step_result}
use Rattle.linear_elim.specs.Systems.{SystemOverflow, overflow_at, system_of}
use Rattle.linear_elim.proofs.OverflowLaws.{step-overflows}
use Rattle.categ_combine.specs.FailingBoxes.{LineFault, failing_from, line_fault, taken}
use Rattle.categ_combine.specs.declared.box_from.BoxFrom.{BoxFrom}
use Rattle.bound_cert.specs.Paths.{changes, keeps_bad, path_place}
use Rattle.bound_cert.specs.declared.outcome.Event.TheVariants as event
use Rattle.edit_paths.specs.Cases.{SearchCase}
use Rattle.edit_paths.specs.Events.{IsStepOverflow, IsTestOverflow}
use Rattle.edit_paths.specs.Paths.{before_last, changed_numbers, field_count, last_field, number_count, treated_codes}
use Rattle.edit_paths.specs.ReachedPaths.{IsReached}
use Rattle.edit_paths.specs.States.{asks_kept, boxes_after, closed_by, first_failing, first_whole, state_of, state_with_boxes, state_with_system, step_event}
use Rattle.edit_paths.specs.declared.state.PathState.{PathState}
use Rattle.edit_paths.specs.declared.state.PathState.TheVariants.{ClosedBad, Open, Overflows}
use Rattle.edit_paths.proofs.ChildLaws.{child-before, child-field, child-kept, child-numbers-same, child-system}
use Rattle.edit_paths.proofs.LetterLaws.{order-shape}

-- What the event of a path that overflows names.

-- ---- numbers of a test

module _ (c : SearchCase) (path : List Bool) (line f : ℕ) where
  -- the line that is named, and what it gives
  abbrev Named : List Derived → Type 0
  Named lines = (d : Derived) × (slice_get lines line ≡ Some d) × (fails_at d.line c.row ≡ Err f)

  tried-names : (whole : List Derived) (i : ℕ) (rest : List Derived) → StandsAt whole i rest → first_failing c path i rest ≡ Overflows (event.Test line f)
      → Named whole
  tried-names whole i [] at h = absurd (cc)
  tried-names whole i (d ∷ rest) at h = by (asks_kept c path d.line) (fails_at d.line c.row) refl (tried-names whole (suc i) rest (later-at whole i d rest at))
      h
    where
      by : (asks : Bool) (r : Result Bool ℕ) → fails_at d.line c.row ≡ r → (first_failing c path (suc i) rest ≡ Overflows (event.Test line f) → Named whole)
          → (if asks then closed_by i r (first_failing c path (suc i) rest) else first_failing c path (suc i) rest) ≡ Overflows (event.Test line f)
          → Named whole
      by true (Ok true) fails later h = absurd (cc)
      by true (Ok false) fails later h = later h
      by true (Err g) fails later h = let here : i ≡ line = cc in let field : g ≡ f = cc in
          (d, ap (λ n. slice_get whole n) (sym here) ∙ first-at whole i d rest at, fails ∙ ap (λ n. Err n) field)
      by false r fails later h = later h

  boxes-name : (whole : List Derived) (i : ℕ) (rest : List Derived) (kept : List BoxFrom) (fault : LineFault) → StandsAt whole i rest
      → failing_from i rest c.row kept ≡ Err fault → fault.line ≡ line → fault.field ≡ f → Named whole
  boxes-name whole i [] kept fault at h line_is field_is = absurd (cc)
  boxes-name whole i (d ∷ rest) kept fault at h line_is field_is =
      by (fails_at d.line c.row) refl h (λ fails e. boxes-name whole (suc i) rest (taken kept i d.line fails) fault (later-at whole i d rest at) e line_is
      field_is)
    where
      by : (r : Result Bool ℕ) → fails_at d.line c.row ≡ r
          → (fault_as (line_fault i) r >>= (λ fails. failing_from (suc i) rest c.row (taken kept i d.line fails))) ≡ Err fault
          → ((fails : Bool) → failing_from (suc i) rest c.row (taken kept i d.line fails) ≡ Err fault → Named whole) → Named whole
      by (Ok b) fails h later = later b h
      by (Err g) fails h later =
          let same : (record { line = i; field = g }) ≡ fault = cc in
          let here : i ≡ line = ap (λ (x : LineFault). x.line) same ∙ line_is in
          let field : g ≡ f = ap (λ (x : LineFault). x.field) same ∙ field_is in
          (d, ap (λ n. slice_get whole n) (sym here) ∙ first-at whole i d rest at, fails ∙ ap (λ n. Err n) field)

  -- the line that is named stands in the path's system, and its sum leaves the range at the field
  pub test-names : state_of c path ≡ Overflows (event.Test line f) → IsTestOverflow c path line f
  test-names e = by_bad (keeps_bad c.survey.fields c.row path) e
    where
      at_boxes : (lines : List Derived) → system_of c.edits (changed_numbers c path) ≡ Ok lines → (r : Result (List BoxFrom) LineFault)
          → failing_from 0 lines c.row [] ≡ r → state_with_boxes c path lines r ≡ Overflows (event.Test line f) → IsTestOverflow c path line f
      at_boxes lines made (Err fault) told h =
          let same : event.Test fault.line fault.field ≡ event.Test line f = cc in
          (lines, made, boxes-name lines 0 lines [] fault (whole-at lines) told (cc) (cc))
      at_boxes lines made (Ok boxes) told h =
          by (length path == number_count c) (position (λ (b : BoxFrom). are_whole (shape_of c.survey.fields) b.code_box.sets)
          (fold (boxes_after c path) boxes (treated_codes c path))) h
        where
          by : (b : Bool) (o : Option ℕ) → (if b then first_failing c path 0 lines else first_whole o) ≡ Overflows (event.Test line f)
              → IsTestOverflow c path line f
          by true o h = (lines, made, tried-names lines 0 lines (whole-at lines) h)
          by false None h = absurd (cc)
          by false (Some i) h = absurd (cc)

      at_system : (r : Result (List Derived) SystemOverflow) → system_of c.edits (changed_numbers c path) ≡ r → state_with_system c path r
          ≡ Overflows (event.Test line f) → IsTestOverflow c path line f
      at_system (Err o) made h = absurd (cc)
      at_system (Ok lines) made h = by (nat_lt (length path) (number_count c)) h
        where
          by : (b : Bool) → (if b then first_failing c path 0 lines else state_with_boxes c path lines (failing_from 0 lines c.row []))
              ≡ Overflows (event.Test line f) → IsTestOverflow c path line f
          by true h = (lines, made, tried-names lines 0 lines (whole-at lines) h)
          by false h = at_boxes lines made (failing_from 0 lines c.row []) refl h

      by_bad : (b : Bool) → (if b then ClosedBad else state_with_system c path (system_of c.edits (changed_numbers c path))) ≡ Overflows (event.Test line f)
          → IsTestOverflow c path line f
      by_bad true h = absurd (cc)
      by_bad false h = at_system (system_of c.edits (changed_numbers c path)) refl h

-- ---- numbers of a step

module _ (c : SearchCase) (path : List Bool) where
  -- an open path has a system
  open-system : state_of c path ≡ Open → (lines : List Derived) × (system_of c.edits (changed_numbers c path) ≡ Ok lines)
  open-system e = by_bad (keeps_bad c.survey.fields c.row path) e
    where
      at : (r : Result (List Derived) SystemOverflow) → state_with_system c path r ≡ Open → (lines : List Derived) × (r ≡ Ok lines)
      at (Err o) h = absurd (cc)
      at (Ok lines) h = (lines, refl)

      by_bad : (b : Bool) → (if b then ClosedBad else state_with_system c path (system_of c.edits (changed_numbers c path))) ≡ Open → (lines : List Derived)
          × (system_of c.edits (changed_numbers c path) ≡ Ok lines)
      by_bad true h = absurd (cc)
      by_bad false h = at (system_of c.edits (changed_numbers c path)) h

  -- a path that overflows in a step has none
  module _ (first second : ℕ) (place : Place) where
    no-test : (s : PathState) → s ≡ Overflows (event.Step first second place) → (i : ℕ) (lines : List Derived) → first_failing c path i lines ≡ s → ⊥
    no-test s is i [] h = cc (h ∙ is)
    no-test s is i (d ∷ lines) h = by (asks_kept c path d.line) (fails_at d.line c.row) (no-test s is (suc i) lines) h
      where
        by : (asks : Bool) (r : Result Bool ℕ) → (first_failing c path (suc i) lines ≡ s → ⊥)
            → (if asks then closed_by i r (first_failing c path (suc i) lines) else first_failing c path (suc i) lines) ≡ s → ⊥
        by true (Ok true) later h = cc (h ∙ is)
        by true (Ok false) later h = later h
        by true (Err g) later h = cc (h ∙ is)
        by false r later h = later h

    no-boxes : (lines : List Derived) (r : Result (List BoxFrom) LineFault) → state_with_boxes c path lines r ≡ Overflows (event.Step first second place) → ⊥
    no-boxes lines (Err fault) h = cc h
    no-boxes lines (Ok boxes) h = by (length path == number_count c) (position (λ (b : BoxFrom). are_whole (shape_of c.survey.fields) b.code_box.sets)
        (fold (boxes_after c path) boxes (treated_codes c path))) h
      where
        by : (b : Bool) (o : Option ℕ) → (if b then first_failing c path 0 lines else first_whole o) ≡ Overflows (event.Step first second place) → ⊥
        by true o h = no-test (Overflows (event.Step first second place)) refl 0 lines h
        by false None h = cc h
        by false (Some i) h = cc h

    step-fault : state_of c path ≡ Overflows (event.Step first second place) → (o : SystemOverflow) × (system_of c.edits (changed_numbers c path) ≡ Err o)
        × (o.step ≡ record { first = first; second = second; place = place })
    step-fault e = by_bad (keeps_bad c.survey.fields c.row path) e
      where
        at : (r : Result (List Derived) SystemOverflow) → state_with_system c path r ≡ Overflows (event.Step first second place) → (o : SystemOverflow)
            × (r ≡ Err o) × (o.step ≡ record { first = first; second = second; place = place })
        at (Err o) h = (o, refl, parts o.step h)
          where
            parts : (s : StepOverflow) → Overflows (step_event s) ≡ Overflows (event.Step first second place) → s
                ≡ record { first = first; second = second; place = place }
            parts s h =
                let one : s.first ≡ first = cc in
                let two : s.second ≡ second = cc in
                let three : s.place ≡ place = cc in
                ap (λ n. record { first = n; second = s.second; place = s.place }) one ∙ ap (λ n. record { first = first; second = n; place = s.place }) two
                ∙ ap (λ (p : Place). record { first = first; second = second; place = p }) three
        at (Ok lines) h = absurd (by (nat_lt (length path) (number_count c)) h)
          where
            by : (b : Bool) → (if b then first_failing c path 0 lines else state_with_boxes c path lines (failing_from 0 lines c.row []))
                ≡ Overflows (event.Step first second place) → ⊥
            by true h = no-test (Overflows (event.Step first second place)) refl 0 lines h
            by false h = no-boxes lines (failing_from 0 lines c.row []) h

        by_bad : (b : Bool) → (if b then ClosedBad else state_with_system c path (system_of c.edits (changed_numbers c path)))
            ≡ Overflows (event.Step first second place)
            → (o : SystemOverflow) × (system_of c.edits (changed_numbers c path) ≡ Err o) × (o.step ≡ record { first = first; second = second; place = place })
        by_bad true h = absurd (cc)
        by_bad false h = at (system_of c.edits (changed_numbers c path)) h

-- a path with one letter more than an open one overflows in the step at its last field
module _ (c : SearchCase) (before : List Bool) (b : Bool) (short : length before < field_count c) (opened : state_of c before ≡ Open) where
  last-step : (o : SystemOverflow) → system_of c.edits (changed_numbers c (before ++ b ∷ [])) ≡ Err o
      → (lines : List Derived) × (system_of c.edits (changed_numbers c before) ≡ Ok lines)
      × IsFirstOverflow lines (slice_index_or (path_order c.survey.fields) (length before) 0) o.step
  last-step o e =
      let (lines, made) = open-system c before opened in (lines, made, by b refl (nat_lt (length before) (number_count c)) refl lines made)
    where
      same-field : length before < number_count c → slice_index_or (number_fields (shape_of c.survey.fields)) (length before) 0
          ≡ slice_index_or (path_order c.survey.fields) (length before) 0
      same-field few = sym (get_or_append_left (number_fields (shape_of c.survey.fields)) (code_fields (shape_of c.survey.fields)) 0 (length before) few)
          ∙ ap (λ (fs : List ℕ). slice_index_or fs (length before) 0) (sym (order-shape c.survey.fields))

      stopped : (f : ℕ) (r : Result (List Derived) StepOverflow) → (fault_as (overflow_at f) r >>= (λ next. Ok next)) ≡ Err o → r ≡ Err o.step
      stopped f (Ok next) h = absurd (cc)
      stopped f (Err s) h = let same : (record { field = f; step = s }) ≡ o = cc in ap (λ (x : SystemOverflow). Err x.step) same

      by : (d : Bool) → b ≡ d → (few : Bool) → nat_lt (length before) (number_count c) ≡ few → (lines : List Derived)
          → system_of c.edits (changed_numbers c before) ≡ Ok lines
          → IsFirstOverflow lines (slice_index_or (path_order c.survey.fields) (length before) 0) o.step
      by false kept few is lines made = absurd (cc (sym e ∙ ap (λ (fs : List ℕ). system_of c.edits fs) (child-kept c before b short kept) ∙ made))
      by true changed false is lines made =
          let many = ltb-false (length before) (number_count c) is in
          absurd (cc (sym e ∙ ap (λ (fs : List ℕ). system_of c.edits fs) (child-numbers-same c before b short many) ∙ made))
      by true changed true is lines made =
          let few : length before < number_count c = ltb-true (length before) (number_count c) is in
          let f = slice_index_or (number_fields (shape_of c.survey.fields)) (length before) 0 in
          subst (λ (g : ℕ). IsFirstOverflow lines g o.step) (same-field few)
          (step-overflows lines f o.step (stopped f (step_result lines f) (sym (child-system c before b short changed few lines made) ∙ e)))

-- the lines that are named stand in the system of the path before, and are the first pair whose combination at the last field leaves the range
pub step-names : (c : SearchCase) (path : List Bool) (first second : ℕ) (place : Place) → length path ≤ field_count c → IsReached c path → state_of c path
    ≡ Overflows (event.Step first second place) → IsStepOverflow c path first second place
step-names c path first second place fits reached e =
    let (o, fault, is) = step-fault c path first second place e in by (length path) refl o fault is
  where
    no_fields : (fs : List ℕ) → filter (changes c.survey.fields []) fs ≡ []
    no_fields [] = refl
    no_fields (f ∷ fs) = ap (λ b. if b then f ∷ filter (changes c.survey.fields []) fs else filter (changes c.survey.fields []) fs)
        (get_or_past [] (path_place c.survey.fields f) false (omega arith)) ∙ no_fields fs

    by : (n : ℕ) → length path ≡ n → (o : SystemOverflow) → system_of c.edits (changed_numbers c path) ≡ Err o → o.step
        ≡ record { first = first; second = second; place = place } → IsStepOverflow c path first second place
    by zero long o fault is =
        absurd
        (cc (sym fault ∙ ap (λ (p : List Bool). system_of c.edits (changed_numbers c p)) (nil_from_length path long)
        ∙ ap (λ (fs : List ℕ). system_of c.edits fs) (no_fields (number_fields (shape_of c.survey.fields)))))
    by (suc n) long o fault is =
        let b = slice_index_or path n false in
        let before = take n path in
        let size : length before ≡ n = length-take-le n path (omega (arith, long)) in
        let split : path ≡ before ++ b ∷ [] = sym (take-length path) ∙ ap (λ k. take k path) long ∙ take-suc path n false (omega (arith, long)) in
        let short : length before < field_count c = omega (arith, size, long, fits) in
        let opened : state_of c before ≡ Open = reached n (omega (arith, long)) in
        let (lines, made, overflow) = last-step c before b short opened o (ap (λ (p : List Bool). system_of c.edits (changed_numbers c p)) (sym split)
        ∙ fault) in (
          lines,
          ap (λ (p : List Bool). system_of c.edits (changed_numbers c (before_last p))) split
              ∙ ap (λ (p : List Bool). system_of c.edits (changed_numbers c p)) (child-before c before b short) ∙ made,
          subst (λ (s : StepOverflow). IsFirstOverflow lines (last_field c path) s) is
              (subst (λ (f : ℕ). IsFirstOverflow lines f o.step) (sym (ap (λ (p : List Bool). last_field c p) split ∙ child-field c before b short)) overflow),
        )
