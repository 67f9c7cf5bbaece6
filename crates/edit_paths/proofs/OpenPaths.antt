use Rattle.std.proofs.Common.{◌≡◌, ◌≢◌, ◌↔◌, ◌==◌, inl, inr, ℕ, suc, ◌≤◌, Bool, true, false, not, if◌then◌else◌, List, [], ◌∷◌, All, Option, Some, None, Result}
use Rattle.std.proofs.Common.{Ok, Err, nat_lt, length, slice_index_or, ℤ, pos, ◌<ℤ◌, ◌*ℤ◌, refl, sym, ap, ◌∙◌, subst, arith}
use Rattle.std.specs.List.{filter, fold, position}
use Rattle.std.specs.Ordering.{int_eq}
use Rattle.std.proofs.lemmas.Bool.Decides.{Decides-eqb, Decides-int_eq}
use Rattle.std.proofs.lemmas.List.{nil_from_length}
use Rattle.std.proofs.lemmas.Bool.{ltb-true}
use Rattle.foundation.specs.Results.{◌>>=◌, fault_as}
use Rattle.fraction128.proofs.Signs.{same_cancel}
use Rattle.fraction128.proofs.Whole.{swap_last}
use Rattle.edit_model.specs.Corrections.{Differs, differs_from, path_order}
use Rattle.edit_model.specs.Points.{Point}
use Rattle.edit_model.specs.RowPoints.{Agrees}
use Rattle.edit_model.specs.Rows.{value_of}
use Rattle.edit_model.specs.declared.value.Value.{Value}
use Rattle.edit_model.specs.declared.value.Value.TheVariants.{Bad, Code, Number}
use Rattle.edit_model.proofs.RowPointLaws.{point_of, point_of-agrees, point_of-codes}
use Rattle.edit_line.specs.Boxes.{are_whole}
use Rattle.edit_line.specs.Reductions.{IsIn}
use Rattle.edit_line.specs.Shapes.{HasCodes, code_fields, codes_at, has_field, number_fields, shape_of, whole_sets}
use Rattle.edit_line.specs.Sums.{fails_at}
use Rattle.edit_line.specs.declared.derived.Derived.{Derived}
use Rattle.edit_line.proofs.FieldLists.{there-has}
use Rattle.edit_line.proofs.Members.{all-in, in-filter, in-filter-out, in-map}
use Rattle.edit_line.proofs.PointCodes.{HasCodes-same}
use Rattle.edit_line.proofs.ShapeLaws.{HasCodes-fields, HasCodes-shape, length-wholes}
use Rattle.linear_elim.specs.Systems.{SystemOverflow, system_of}
use Rattle.categ_combine.specs.BoxLists.{Avoids, avoid, sets_of}
use Rattle.categ_combine.specs.FailingBoxes.{LineFault, failing_from, line_fault, taken}
use Rattle.categ_combine.specs.declared.box_from.BoxFrom.{BoxFrom}
use Rattle.categ_combine.proofs.BoxSets.{none-passes}
use Rattle.bound_cert.specs.Paths.{changes, keeps, keeps_bad}
use Rattle.edit_paths.specs.Cases.{SearchCase, IsCase, Meets}
use Rattle.edit_paths.specs.PathStates.{is_closed}
use Rattle.edit_paths.specs.Paths.{AgreesAlong, DiffersOnlyOn, changed_numbers, field_count, number_count, treated_codes, treats}
use Rattle.edit_paths.specs.States.{StaysInRange, IsOpen, asks_kept, boxes_after, closed_by, first_failing, first_whole, state_of, state_with_boxes}
use Rattle.edit_paths.specs.States.{state_with_system}
use Rattle.edit_paths.specs.declared.state.PathState.{PathState}
use Rattle.edit_paths.specs.declared.state.PathState.TheVariants.{ClosedBad, ClosedBox, ClosedLine, Open, Overflows}
use Rattle.edit_paths.proofs.CaseSystems.{system-lifts}
use Rattle.edit_paths.proofs.ClosedPaths.{closed-path, first-sets, hold-avoid, own-code, treated-code}
use Rattle.edit_paths.proofs.FieldPlaces.{code-place}
use Rattle.edit_paths.proofs.KeptLines.{asks-full, derived-over, kept-held}
use Rattle.edit_paths.proofs.LetterLaws.{all-treated, code-field, complete-treats, count-kinds, kept-not_changed}
use Rattle.edit_paths.proofs.PathBoxes.{all-sized, all-whole, avoids-back, sets-along, sets_after, whole-places}

-- A path that treats all fields is open only where some point at which the edits hold differs from the record just at fields that it changes.

-- a point with the same code and number agrees where the other does
agrees-same : (v : Value) (p q : Point) (f : ℕ) → q.code f ≡ p.code f → q.numerator f *ℤ p.denominator ≡ p.numerator f *ℤ q.denominator → differs_from v p f
    ≡ false → differs_from v q f ≡ false
agrees-same (Code k) p q f codes numbers agrees = ap (λ n. not (k == n)) codes ∙ agrees
agrees-same (Number x) p q f codes numbers agrees =
    let at_p : p.numerator f *ℤ x.denominator ≡ x.numerator *ℤ p.denominator = (Decides-int_eq _ _).0
    (undo (int_eq (p.numerator f *ℤ x.denominator) (x.numerator *ℤ p.denominator)) agrees) in
    ap not ((Decides-int_eq _ _).1 (same_over (q.numerator f) (p.numerator f) x.numerator x.denominator p.denominator q.denominator p.positive numbers at_p))
  where
    undo : (b : Bool) → not b ≡ false → b ≡ true
    undo true h = refl
    undo false h = absurd (cc)

    same_over : (x y z d e g : ℤ) → pos 0 <ℤ e → x *ℤ e ≡ y *ℤ g → y *ℤ d ≡ z *ℤ e → x *ℤ d ≡ z *ℤ g
    same_over x y z d e g above first second = same_cancel (x *ℤ d) (z *ℤ g) e above (swap_last x d e ∙ ap (λ (k : ℤ). k *ℤ d) first ∙ swap_last y g d
        ∙ ap (λ (k : ℤ). k *ℤ g) second ∙ swap_last z e g)
agrees-same Bad p q f codes numbers agrees = absurd (cc)

module _ (c : SearchCase) (is : IsCase c) (path : List Bool) where
  -- where all lines are asked and none closes the path, there are no boxes
  none-fails : (i : ℕ) (lines : List Derived) (boxes : List BoxFrom) → ((d : Derived) → IsIn d lines → asks_kept c path d.line ≡ true)
      → first_failing c path i lines ≡ Open → failing_from i lines c.row [] ≡ Ok boxes → boxes ≡ []
  none-fails i [] boxes asked opened told = sym (cc)
  none-fails i (d ∷ lines) boxes asked opened told =
      by (asks_kept c path d.line) (fails_at d.line c.row) (asked d (inl refl)) (none-fails (suc i) lines boxes (λ e at. asked e (inr at))) opened told
    where
      by : (asks : Bool) (r : Result Bool ℕ) → asks ≡ true → (first_failing c path (suc i) lines ≡ Open → failing_from (suc i) lines c.row [] ≡ Ok boxes → boxes
          ≡ [])
          → (if asks then closed_by i r (first_failing c path (suc i) lines) else first_failing c path (suc i) lines) ≡ Open
          → (fault_as (line_fault i) r >>= (λ fails. failing_from (suc i) lines c.row (taken [] i d.line fails))) ≡ Ok boxes → boxes ≡ []
      by true (Ok true) asks rest h t = absurd (cc)
      by true (Ok false) asks rest h t = rest h t
      by true (Err f) asks rest h t = absurd (cc)
      by false r asks rest h t = absurd (cc)

  module _ (complete : length path ≡ field_count c) (none : keeps_bad c.survey.fields c.row path ≡ false) (lines : List Derived)
      (made : system_of c.edits (changed_numbers c path) ≡ Ok lines) where
    enough : number_count c ≤ length path
    enough = omega (arith, complete, count-kinds c)

    -- without categorical fields each line is asked
    asked : code_fields (shape_of c.survey.fields) ≡ [] → (d : Derived) → IsIn d lines → asks_kept c path d.line ≡ true
    asked no_codes d there =
        let short : length d.line.sets ≡ 0 = (derived-over c is path none lines made d there).sets ∙ ap (λ (fs : List ℕ). length fs) no_codes in
        let wholes : length (whole_sets (shape_of c.survey.fields)) ≡ 0 = length-wholes 0 (shape_of c.survey.fields)
        ∙ ap (λ (fs : List ℕ). length fs) no_codes in
        asks-full c is path none lines made enough d there ∙ whole-places (shape_of c.survey.fields) d.line.sets (short ∙ sym wholes)
        (λ k below. absurd (omega (arith, short)))

    module _ (boxes : List BoxFrom) (told : failing_from 0 lines c.row [] ≡ Ok boxes) where
      -- all boxes that are left are whole
      left-whole : (b : BoxFrom) → IsIn b (fold (boxes_after c path) boxes (treated_codes c path)) → are_whole (shape_of c.survey.fields) b.code_box.sets ≡ true
      left-whole b there =
          let in_sets : IsIn b.code_box.sets (fold (sets_after c path) (sets_of boxes) (treated_codes c path)) =
          subst (λ (bs : List (List ℕ)). IsIn b.code_box.sets bs) (sets-along c path boxes (treated_codes c path))
          (in-map (λ (b : BoxFrom). b.code_box.sets) b (fold (boxes_after c path) boxes (treated_codes c path)) there) in
          let sets = first-sets c is path none lines made enough boxes told in
          let size = all-sized c path (sets_of boxes) (treated_codes c path) sets b.code_box.sets in_sets in
          whole-places (shape_of c.survey.fields) b.code_box.sets (size ∙ sym (length-wholes 0 (shape_of c.survey.fields))) (λ k below.
          let (f, at, place) = code-place c k (omega (arith, size)) in
          let treated = in-filter (treats c path) f (code_fields (shape_of c.survey.fields))
          (complete-treats c path complete f (code-field c f (there-has f (code_fields (shape_of c.survey.fields)) at))) at in
          let whole = all-whole c path (sets_of boxes) (treated_codes c path) f (λ g g_in. (treated-code c is path g g_in).0) sets treated b.code_box.sets
          in_sets in
          ap (λ n. slice_index_or b.code_box.sets n 0) place ∙ whole.whole ∙ ap (λ n. slice_index_or (whole_sets (shape_of c.survey.fields)) n 0) (sym place))

      -- an open path leaves no boxes
      none-left : state_with_boxes c path lines (Ok boxes) ≡ Open → fold (boxes_after c path) boxes (treated_codes c path) ≡ []
      none-left opened = by (length path == number_count c) refl opened
        where
          by : (b : Bool) → (length path == number_count c) ≡ b
              → (if b then first_failing c path 0 lines else first_whole (position (λ (b : BoxFrom). are_whole (shape_of c.survey.fields) b.code_box.sets)
              (fold (boxes_after c path) boxes (treated_codes c path)))) ≡ Open
              → fold (boxes_after c path) boxes (treated_codes c path) ≡ []
          by true e h =
              let same : length path ≡ number_count c = (Decides-eqb (length path) (number_count c)).0 e in
              let no_codes : code_fields (shape_of c.survey.fields) ≡ [] = nil_from_length (code_fields (shape_of c.survey.fields))
              (omega (arith, complete, same, count-kinds c)) in
              ap (λ (fs : List ℕ). fold (boxes_after c path) boxes (filter (treats c path) fs)) no_codes ∙ none-fails 0 lines boxes (asked no_codes) h told
          by false e h =
              none-passes (λ (b : BoxFrom). are_whole (shape_of c.survey.fields) b.code_box.sets) (fold (boxes_after c path) boxes (treated_codes c path))
              left-whole
              (no_position (position (λ (b : BoxFrom). are_whole (shape_of c.survey.fields) b.code_box.sets)
              (fold (boxes_after c path) boxes (treated_codes c path))) h)
            where
              no_position : (o : Option ℕ) → first_whole o ≡ Open → o ≡ None
              no_position None h = refl
              no_position (Some i) h = absurd (cc)

      row_agrees : AgreesAlong c path (point_of c.row)
      row_agrees f there kept = point_of-agrees c.row f (kept-held c is path none f there kept)

      row_codes : HasCodes 0 (shape_of c.survey.fields) (point_of c.row)
      row_codes = HasCodes-shape 0 c.survey.fields (point_of c.row) (point_of-codes c.survey.fields c.row is.fields is.row)

      -- a point at which the edits hold and that has the record's values at the kept fields
      point-found : state_with_boxes c path lines (Ok boxes) ≡ Open → (q : Point) × Meets c q × AgreesAlong c path q
      point-found opened =
          let avoids : Avoids (shape_of c.survey.fields) (fold (sets_after c path) (sets_of boxes) (treated_codes c path)) (point_of c.row) =
          ap (λ (bs : List (List ℕ)). avoid bs (codes_at (shape_of c.survey.fields) (point_of c.row))) (sym (sets-along c path boxes (treated_codes c path))
          ∙ ap (λ (bs : List BoxFrom). sets_of bs) (none-left opened)) in
          let (p, differs, held, first) =
          avoids-back c path (sets_of boxes) (treated_codes c path) (point_of c.row)
          (λ f at. ((treated-code c is path f at).0, own-code c is path none (point_of c.row) row_agrees f at))
          (first-sets c is path none lines made enough boxes told) row_codes avoids in
          let p_agrees : AgreesAlong c path p = λ f there kept.
          agrees-same (value_of c.row f) (point_of c.row) p f (differs.codes f (kept-not_changed c path f kept))
          (ap (λ (z : ℤ). z *ℤ (point_of c.row).denominator) (differs.numerators f) ∙ ap (λ (z : ℤ). (point_of c.row).numerator f *ℤ z)
          (sym differs.denominator)) (row_agrees f there kept) in
          let holds = (hold-avoid c is path none lines made enough boxes told p p_agrees).1 first in
          let (q, apart, codes, edits) = system-lifts c is (changed_numbers c path) lines made p holds in (
            q,
            record { codes = HasCodes-fields 0 c.survey.fields q (HasCodes-same 0 (shape_of c.survey.fields) p q codes held); edits = edits },
            λ f there kept. agrees-same (value_of c.row f) p q f (codes f) (apart.numbers f (outside f kept)) (p_agrees f there kept),
          )
        where
          outside : (f : ℕ) → keeps c.survey.fields path f ≡ true → All (λ g. f ≢ g) (changed_numbers c path)
          outside f kept = all-in (λ g. f ≢ g) (changed_numbers c path) (λ g there same.
              absurd
              (cc (sym (kept-not_changed c path f kept) ∙ ap (λ h. changes c.survey.fields path h) same
              ∙ (in-filter-out (changes c.survey.fields path) g (number_fields (shape_of c.survey.fields)) there).1)))

  pub open-point : length path ≡ field_count c → IsOpen c path → (q : Point) × Meets c q × AgreesAlong c path q
  open-point complete opened = by_bad (keeps_bad c.survey.fields c.row path) refl opened
    where
      at_boxes : (none : keeps_bad c.survey.fields c.row path ≡ false) (lines : List Derived) → system_of c.edits (changed_numbers c path) ≡ Ok lines
          → (r : Result (List BoxFrom) LineFault) → failing_from 0 lines c.row [] ≡ r
          → state_with_boxes c path lines r ≡ Open → (q : Point) × Meets c q × AgreesAlong c path q
      at_boxes none lines made (Err fault) told h = absurd (cc)
      at_boxes none lines made (Ok boxes) told h = point-found complete none lines made boxes told h

      at_system : (none : keeps_bad c.survey.fields c.row path ≡ false) (r : Result (List Derived) SystemOverflow) → system_of c.edits (changed_numbers c path)
          ≡ r → state_with_system c path r ≡ Open → (q : Point) × Meets c q × AgreesAlong c path q
      at_system none (Err o) made h = absurd (cc)
      at_system none (Ok lines) made h = by (nat_lt (length path) (number_count c)) refl h
        where
          all : number_count c ≤ length path
          all = omega (arith, complete, count-kinds c)

          by : (b : Bool) → nat_lt (length path) (number_count c) ≡ b
              → (if b then first_failing c path 0 lines else state_with_boxes c path lines (failing_from 0 lines c.row [])) ≡ Open → (q : Point) × Meets c q
              × AgreesAlong c path q
          by true e h = absurd (omega (arith, ltb-true (length path) (number_count c) e, all))
          by false e h = at_boxes none lines made (failing_from 0 lines c.row []) refl h

      by_bad : (b : Bool) → keeps_bad c.survey.fields c.row path ≡ b
          → (if b then ClosedBad else state_with_system c path (system_of c.edits (changed_numbers c path))) ≡ Open → (q : Point) × Meets c q
          × AgreesAlong c path q
      by_bad true e h = absurd (cc)
      by_bad false e h = at_system e (system_of c.edits (changed_numbers c path)) refl h

  -- a path that is neither closed nor past the range is open
  pub not-closed : StaysInRange c path → (is_closed (state_of c path) ≡ true → ⊥) → IsOpen c path
  not-closed fits unclosed = by (state_of c path) refl
    where
      by : (s : PathState) → state_of c path ≡ s → state_of c path ≡ Open
      by Open e = e
      by ClosedBad e = absurd (unclosed (ap (λ s. is_closed s) e))
      by (ClosedLine i) e = absurd (unclosed (ap (λ s. is_closed s) e))
      by (ClosedBox i) e = absurd (unclosed (ap (λ s. is_closed s) e))
      by (Overflows event) e = absurd (fits event e)

  -- ---- the law of open paths

  -- a path that treats all fields and does not overflow is open exactly where some point at which the edits hold
  -- differs from the record only at the fields that it changes
  pub open-path : length path ≡ field_count c → StaysInRange c path → IsOpen c path ↔ ((p : Point) × Meets c p × DiffersOnlyOn c path p)
  open-path complete fits = (
    λ opened. let (p, meets, agrees) = open-point complete opened in (p, meets, λ f there differs. changed f there (agrees f there) differs),
    λ some. let (p, meets, only) = some in
        not-closed fits (λ closed. closed-path c is path closed p meets (λ f there kept. unchanged f p (kept-not_changed c path f kept) (only f there))),
  )
    where
      changed : (f : ℕ) → has_field (path_order c.survey.fields) f ≡ true → {v : Bool} → (keeps c.survey.fields path f ≡ true → v ≡ false) → v ≡ true
          → changes c.survey.fields path f ≡ true
      changed f there agrees differs = by (changes c.survey.fields path f) refl
        where
          by : (b : Bool) → changes c.survey.fields path f ≡ b → b ≡ true
          by true e = refl
          by false e = absurd (cc (sym (agrees (all-treated c path complete f there e)) ∙ differs))

      unchanged : (f : ℕ) (p : Point) → changes c.survey.fields path f ≡ false → (Differs c.row p f → changes c.survey.fields path f ≡ true) → Agrees c.row p f
      unchanged f p e only = by (differs_from (value_of c.row f) p f) only
        where
          by : (b : Bool) → (b ≡ true → changes c.survey.fields path f ≡ true) → b ≡ false
          by true h = absurd (cc (sym e ∙ h refl))
          by false h = refl
