use Rattle.std.proofs.Common.{◌≡◌, ◌≢◌, ◌==◌, inl, inr, ℕ, zero, suc, ◌<◌, ◌&&◌, ◌||◌, Bool, true, false, not, if◌then◌else◌, nat_lt, List, [], ◌∷◌}
use Rattle.std.proofs.Common.{All, Option, Some, None, Result, Ok, Err, length, slice_index_or, pos, refl, sym, ap, ◌∙◌, subst, arith}
use Rattle.std.specs.List.{filter, fold, list_all, list_any, position}
use Rattle.foundation.specs.Results.{◌>>=◌, fault_as}
use Rattle.edit_model.specs.Corrections.{is_numerical, path_order}
use Rattle.edit_model.specs.Corrections as corrections
use Rattle.edit_model.specs.RowPoints.{Agrees}
use Rattle.edit_model.specs.Rows.{is_bad, value_of}
use Rattle.edit_model.specs.declared.value.Value.TheVariants.{Bad}
use Rattle.edit_model.specs.declared.field.Field.{Field}
use Rattle.edit_model.proofs.CleanLaws.{none-bad}
use Rattle.edit_model.proofs.OrderLaws.{field-below}
use Rattle.edit_model.proofs.RowLaws.{row-length, was-bad}
use Rattle.edit_model.proofs.RowPointLaws.{point_of, point_of-agrees, point_of-codes}
use Rattle.edit_line.specs.inner.LineFields.{HasNumbers}
use Rattle.edit_line.specs.Boxes.{are_whole}
use Rattle.edit_line.specs.EditSets.{base_lines}
use Rattle.edit_line.specs.Lines.{HasShape, IsEnough, LineHolds, LineParts, amount, factor}
use Rattle.edit_line.specs.Reductions.{IsIn, lines_of, reduce_derived}
use Rattle.edit_line.specs.Sets.{AreCodesIn}
use Rattle.edit_line.specs.Shapes.{Domain, codes_at, has_field, number_fields, shape_of}
use Rattle.edit_line.specs.Subsumption.{is_enough}
use Rattle.edit_line.specs.Sums.{AgreesOnLine, fails_at}
use Rattle.edit_line.specs.declared.derived.Derived.{Derived}
use Rattle.edit_line.proofs.Enough.{is_enough-Decides}
use Rattle.edit_line.proofs.FactorLaws.{at-factors, factor-numerical}
use Rattle.edit_line.proofs.FieldLists.{has-append, there-has}
use Rattle.edit_line.proofs.Members.{all-in, in-all, in-any, in-map, in-map-out}
use Rattle.edit_line.proofs.SetLaws.{both_true, is_inside-Decides}
use Rattle.edit_line.proofs.SumCallers.{numbers-held}
use Rattle.edit_line.proofs.SumLaws.{fails_at-truth}
use Rattle.linear_elim.specs.Systems.{system_of}
use Rattle.linear_elim.proofs.FoldLaws.{start-same}
use Rattle.categ_combine.specs.FailingBoxes.{LineFault, failing_from, line_fault, taken}
use Rattle.categ_combine.specs.declared.box_from.BoxFrom.{BoxFrom}
use Rattle.bound_cert.specs.Paths.{changes, keeps, keeps_bad}
use Rattle.bound_cert.specs.declared.outcome.Event.{Event}
use Rattle.edit_paths.specs.Cases.{SearchCase, IsCase, Meets}
use Rattle.edit_paths.specs.Paths.{AgreesAlong, changed_numbers, number_count, treated_codes}
use Rattle.edit_paths.specs.States.{IsOpen, asks_kept, boxes_after, closed_by, first_failing, first_whole, state_of, state_with_boxes, state_with_system}
use Rattle.edit_paths.specs.declared.state.PathState.TheVariants.{ClosedBad, Overflows}
use Rattle.edit_paths.proofs.CaseSystems.{start_over}
use Rattle.edit_paths.proofs.ClosedPaths.{closed-path}
use Rattle.edit_paths.proofs.LetterLaws.{number-field}
use Rattle.edit_paths.proofs.OpenPaths.{not-closed}
use Rattle.localise_tree.specs.inner.AllKept.{all_hold_at, holds_at, holds_by, holds_throughout, is_for, kept_path}

-- A record without Bad fields at which all lines hold: each path that keeps all its fields is open.

-- ---- lists

listed : {X : Type 0} (test : X → Bool) (x : X) (xs : List X) → list_all test xs ≡ true → IsIn x xs → test x ≡ true
listed test x [] all there = absurd there
listed test x (y ∷ xs) all (inl same) = ap test same ∙ (both_true (test y) (list_all test xs) all).0
listed test x (y ∷ xs) all (inr there) = listed test x xs (both_true (test y) (list_all test xs) all).1 there

pub filter-none : (test : ℕ → Bool) (xs : List ℕ) → ((x : ℕ) → test x ≡ false) → filter test xs ≡ []
filter-none test [] none = refl
filter-none test (x ∷ xs) none = ap (λ b. if b then x ∷ filter test xs else filter test xs) (none x) ∙ filter-none test xs none

undo : (b : Bool) → not b ≡ true → b ≡ false
undo false h = refl
undo true h = absurd (cc)

-- ---- the path that keeps all its fields

pub kept-letter : (count i : ℕ) → slice_index_or (kept_path count) i false ≡ false
kept-letter zero i = refl
kept-letter (suc count) zero = refl
kept-letter (suc count) (suc i) = kept-letter count i

-- it changes no numerical field
pub kept-numbers : (c : SearchCase) (count : ℕ) → changed_numbers c (kept_path count) ≡ []
kept-numbers c count = filter-none (changes c.survey.fields (kept_path count)) (number_fields (shape_of c.survey.fields)) (λ f. kept-letter count _)

-- a field of the path order is one of the fields
order-within : (fields : List Field) (f : ℕ) → has_field (path_order fields) f ≡ true → f < length fields
order-within fields f there =
    by (has_field (corrections.number_fields fields) f) refl (sym (has-append f (corrections.number_fields fields) (corrections.code_fields fields)) ∙ there)
  where
    by : (b : Bool) → has_field (corrections.number_fields fields) f ≡ b
        → (has_field (corrections.number_fields fields) f || has_field (corrections.code_fields fields) f) ≡ true → f < length fields
    by true e h = field-below is_numerical fields f e
    by false e h = field-below (λ k. not (is_numerical k)) fields f (sym (ap (λ b. b || has_field (corrections.code_fields fields) f) e) ∙ h)

-- the lines that the search begins with are over the fields of the case
pub lines-over : (c : SearchCase) → IsCase c → All (λ (d : Derived). HasShape (shape_of c.survey.fields) d.line) (reduce_derived (base_lines c.edits))
lines-over c is = all-in (λ (d : Derived). HasShape (shape_of c.survey.fields) d.line) (reduce_derived (base_lines c.edits)) (λ d there.
    in-all (λ l. HasShape (shape_of c.survey.fields) l) d.line (lines_of (reduce_derived (base_lines c.edits))) (start_over c is)
    (in-map (λ (d : Derived). d.line) d (reduce_derived (base_lines c.edits)) there))

module _ (c : SearchCase) (is : IsCase c) (holds : holds_throughout c ≡ true) where
  abbrev lines : List Derived
  lines = reduce_derived (base_lines c.edits)

  none : list_any is_bad c.row ≡ false
  none = undo (list_any is_bad c.row) (both_true (not (list_any is_bad c.row)) (all_hold_at c.row lines) holds).0

  field-held : (f : ℕ) → has_field (path_order c.survey.fields) f ≡ true → value_of c.row f ≢ Bad
  field-held f there = none-bad c.row f none (omega (arith, order-within c.survey.fields f there, row-length c.survey.fields c.row is.row))

  no-bad : (path : List Bool) → keeps_bad c.survey.fields c.row path ≡ false
  no-bad path = by (keeps_bad c.survey.fields c.row path) refl
    where
      by : (b : Bool) → keeps_bad c.survey.fields c.row path ≡ b → b ≡ false
      by false e = refl
      by true e =
          let (f, there, both) = in-any (λ f. keeps c.survey.fields path f && is_bad (value_of c.row f)) (path_order c.survey.fields) e in
          let bad = (both_true (keeps c.survey.fields path f) (is_bad (value_of c.row f)) both).1 in
          absurd (field-held f (there-has f (path_order c.survey.fields) there) (was-bad (value_of c.row f) bad))

  row-agrees : (path : List Bool) → AgreesAlong c path (point_of c.row)
  row-agrees path f there kept = point_of-agrees c.row f (field-held f there)

  -- ---- the lines

  line-over : (d : Derived) → IsIn d lines → HasShape (shape_of c.survey.fields) d.line
  line-over d there = in-all (λ (d : Derived). HasShape (shape_of c.survey.fields) d.line) d lines (lines-over c is) there

  line-held : (d : Derived) → IsIn d lines → holds_at c.row d.line ≡ true
  line-held d there = listed (λ (d : Derived). holds_at c.row d.line) d lines (both_true (not (list_any is_bad c.row)) (all_hold_at c.row lines) holds).1 there

  -- the sum of each stays in range
  line-fits : (d : Derived) → IsIn d lines → (failed : Bool) × (fails_at d.line c.row ≡ Ok failed)
  line-fits d there = by (fails_at d.line c.row) (line-held d there)
    where
      by : (r : Result Bool ℕ) → holds_by r (is_for c.row d.line) ≡ true → (failed : Bool) × (r ≡ Ok failed)
      by (Ok failed) h = (failed, refl)
      by (Err f) h = absurd (cc)

  module _ (d : Derived) (there : IsIn d lines) where
    stands-field : (f : ℕ) → factor d.line f ≢ pos 0 → has_field (path_order c.survey.fields) f ≡ true
    stands-field f stands =
        number-field c f (subst (λ (s : List Domain). has_field (number_fields s) f ≡ true) (line-over d there).same (factor-numerical d.line f stands))

    has-numbers : HasNumbers c.row d.line
    has-numbers =
        numbers-held c.survey.fields c.row d.line (line-over d there).same is.row
        (at-factors (λ f. value_of c.row f ≢ Bad) d.line (λ f stands. field-held f (stands-field f stands)))

    agrees-there : AgreesOnLine c.row (point_of c.row) d.line
    agrees-there = at-factors (λ f. Agrees c.row (point_of c.row) f) d.line (λ f stands. point_of-agrees c.row f (field-held f (stands-field f stands)))

    -- and it holds at the record's point
    line-holds : LineHolds d.line (point_of c.row)
    unfolding point_of
    line-holds = record { enough = λ inside. by (fails_at d.line c.row) refl (line-held d there) inside }
      where
        enough-when : (failed : Bool) → fails_at d.line c.row ≡ Ok failed → not (failed && is_for c.row d.line) ≡ true
            → AreCodesIn d.line.sets (codes_at d.line.shape (point_of c.row)) → IsEnough d.line.relation (amount d.line (point_of c.row))
        enough-when false e h inside = (is_enough-Decides d.line.relation (amount d.line (point_of c.row))).0
            (passes (is_enough d.line.relation (amount d.line (point_of c.row)))
            (fails_at-truth d.line c.row (point_of c.row) false has-numbers agrees-there e))
          where
            passes : (b : Bool) → false ≡ not b → b ≡ true
            passes true h = refl
            passes false h = absurd (cc)
        enough-when true e h inside =
            let codes_in : is_for c.row d.line ≡ true = (is_inside-Decides d.line.sets (codes_at d.line.shape (point_of c.row))).1 inside in
            absurd (cc (sym h ∙ ap not codes_in))

        by : (r : Result Bool ℕ) → fails_at d.line c.row ≡ r → holds_by r (is_for c.row d.line) ≡ true
            → AreCodesIn d.line.sets (codes_at d.line.shape (point_of c.row)) → IsEnough d.line.relation (amount d.line (point_of c.row))
        by (Ok failed) e h inside = enough-when failed e h inside
        by (Err f) e h inside = absurd (cc)

  row-meets : Meets c (point_of c.row)
  row-meets = record {
    codes = point_of-codes c.survey.fields c.row is.fields is.row;
    edits =
        (start-same (shape_of c.survey.fields) c.edits lines is.edits.edits refl (point_of c.row)).0
        (all-in (λ l. LineHolds l (point_of c.row)) (lines_of lines) (λ l there.
        let (d, at, same) = in-map-out (λ (d : Derived). d.line) l lines there in
        subst (λ (l : LineParts). LineHolds l (point_of c.row)) (sym same) (line-holds d at)));
  }

  -- ---- no number leaves the range

  no-event : (path : List Bool) (e : Event) (i : ℕ) (some : List Derived)
      → ((d : Derived) → IsIn d some → (failed : Bool) × (fails_at d.line c.row ≡ Ok failed)) → first_failing c path i some ≡ Overflows e → ⊥
  no-event path e i [] each h = cc h
  no-event path e i (d ∷ some) each h = let (failed, fits) = each d (inl refl) in
      by (asks_kept c path d.line) failed (no-event path e (suc i) some (λ x there. each x (inr there)))
      (sym (ap (λ (r : Result Bool ℕ). if asks_kept c path d.line then closed_by i r (first_failing c path (suc i) some) else first_failing c path (suc i)
      some) fits) ∙ h)
    where
      by : (asks failed : Bool) → (first_failing c path (suc i) some ≡ Overflows e → ⊥)
          → (if asks then closed_by i (Ok failed) (first_failing c path (suc i) some) else first_failing c path (suc i) some) ≡ Overflows e → ⊥
      by true true rest h = cc h
      by true false rest h = rest h
      by false failed rest h = rest h

  boxes-made : (i : ℕ) (some : List Derived) (kept : List BoxFrom) → ((d : Derived) → IsIn d some → (failed : Bool) × (fails_at d.line c.row ≡ Ok failed))
      → (boxes : List BoxFrom) × (failing_from i some c.row kept ≡ Ok boxes)
  boxes-made i [] kept each = (kept, refl)
  boxes-made i (d ∷ some) kept each =
      let (failed, fits) = each d (inl refl) in
      let (boxes, made) = boxes-made (suc i) some (taken kept i d.line failed) (λ x there. each x (inr there)) in
      (boxes, ap (λ (r : Result Bool ℕ). fault_as (line_fault i) r >>= (λ fails. failing_from (suc i) some c.row (taken kept i d.line fails))) fits ∙ made)

  kept-state : (count : ℕ) → state_of c (kept_path count) ≡ state_with_system c (kept_path count) (Ok lines)
  kept-state count =
      ap (λ b. if b then ClosedBad else state_with_system c (kept_path count) (system_of c.edits (changed_numbers c (kept_path count))))
      (no-bad (kept_path count))
      ∙ ap (λ (fs : List ℕ). state_with_system c (kept_path count) (system_of c.edits fs)) (kept-numbers c count)

  stays : (count : ℕ) (e : Event) → state_of c (kept_path count) ≡ Overflows e → ⊥
  stays count e h = by (nat_lt (length (kept_path count)) (number_count c)) (sym (kept-state count) ∙ h)
    where
      at_boxes : (b : Bool) (o : Option ℕ) → (if b then first_failing c (kept_path count) 0 lines else first_whole o) ≡ Overflows e → ⊥
      at_boxes true o h = no-event (kept_path count) e 0 lines line-fits h
      at_boxes false (Some i) h = cc h
      at_boxes false None h = cc h

      by : (b : Bool) → (if b then first_failing c (kept_path count) 0 lines else state_with_boxes c (kept_path count) lines
          (failing_from 0 lines c.row [])) ≡ Overflows e → ⊥
      by true h = no-event (kept_path count) e 0 lines line-fits h
      by false h = let (boxes, made) = boxes-made 0 lines [] line-fits in
          at_boxes (length (kept_path count) == number_count c)
          (position (λ (b : BoxFrom). are_whole (shape_of c.survey.fields) b.code_box.sets)
          (fold (boxes_after c (kept_path count)) boxes (treated_codes c (kept_path count))))
          (sym (ap (λ (r : Result (List BoxFrom) LineFault). state_with_boxes c (kept_path count) lines r) made) ∙ h)

  -- each path that keeps all its fields is open
  pub kept-open : (count : ℕ) → IsOpen c (kept_path count)
  kept-open count =
      not-closed c is (kept_path count) (stays count) (λ closed. closed-path c is (kept_path count) closed (point_of c.row) row-meets
      (row-agrees (kept_path count)))
