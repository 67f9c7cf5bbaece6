use Rattle.std.proofs.Common.{◌≡◌, ◌↔◌, ◌==◌, inl, inr, ℕ, suc, ◌≤◌, Bool, true, false, if◌then◌else◌, List, [], ◌∷◌, Option, Some, None, Result, Ok, Err}
use Rattle.std.proofs.Common.{nat_lt, length, slice_get, refl, sym, ap, ◌∙◌, subst, arith}
use Rattle.std.proofs.lemmas.Bool.{ltb-false}
use Rattle.std.specs.List.{fold, position}
use Rattle.edit_model.specs.Points.{Point}
use Rattle.edit_model.specs.RowPoints.{code_in}
use Rattle.edit_model.specs.Corrections.{differs_from}
use Rattle.edit_model.specs.Rows.{value_of}
use Rattle.edit_model.specs.Trials.{IsCodeValue}
use Rattle.edit_model.specs.declared.value.Value.{Value}
use Rattle.edit_model.specs.declared.value.Value.TheVariants.{Bad, Code, Number}
use Rattle.edit_model.proofs.RowLaws.{code-at}
use Rattle.edit_line.specs.Boxes.{BoxParts, are_whole, box_of}
use Rattle.edit_line.specs.CodeFields.{TakesCodes}
use Rattle.edit_line.specs.Lines.{AllHold}
use Rattle.edit_line.specs.Reductions.{IsIn, lines_of}
use Rattle.edit_line.specs.Shapes.{HasCodes, code_fields, has_field, shape_of}
use Rattle.edit_line.specs.Sums.{fails_at}
use Rattle.edit_line.specs.declared.derived.Derived.{Derived}
use Rattle.edit_line.proofs.FieldLists.{there-has}
use Rattle.edit_line.proofs.ListPlaces.{some_with}
use Rattle.edit_line.proofs.Members.{in-all, in-filter-out, in-get, in-map, in-map-out}
use Rattle.edit_line.proofs.PointCodes.{takes-codes}
use Rattle.edit_line.proofs.ShapeLaws.{HasCodes-shape, code_fields-same}
use Rattle.linear_elim.specs.Systems.{SystemOverflow, system_of}
use Rattle.categ_combine.specs.BoxLists.{Avoids, sets_of}
use Rattle.categ_combine.specs.FailingBoxes.{LineFault, failing_from}
use Rattle.categ_combine.specs.Origins.{ComesFromLine}
use Rattle.categ_combine.specs.declared.box_from.BoxFrom.{BoxFrom}
use Rattle.categ_combine.specs.declared.box_from.BoxOrigin.{BoxOrigin}
use Rattle.categ_combine.specs.declared.box_from.BoxOrigin.TheVariants.{Cover, Failing, Fixed, Unchanged}
use Rattle.categ_combine.proofs.AvoidLaws.{failing-avoids}
use Rattle.categ_combine.proofs.BoxOrigins.{failing-comes}
use Rattle.categ_combine.proofs.BoxSets.{found-passes}
use Rattle.categ_combine.proofs.CoverLaws.{HaveSets}
use Rattle.categ_combine.proofs.FailingLaws.{failing-sets}
use Rattle.bound_cert.specs.Paths.{changes, keeps_bad}
use Rattle.edit_paths.specs.Cases.{SearchCase, IsCase, Meets}
use Rattle.edit_paths.specs.PathStates.{is_closed}
use Rattle.edit_paths.specs.Paths.{AgreesAlong, changed_numbers, number_count, treated_codes, treats}
use Rattle.edit_paths.specs.States.{IsClosed, asks_kept, boxes_after, closed_by, first_failing, first_whole, state_with_boxes, state_with_system}
use Rattle.edit_paths.specs.declared.state.PathState.TheVariants.{ClosedBad}
use Rattle.edit_paths.proofs.CaseSystems.{system-follows}
use Rattle.edit_paths.proofs.KeptLines.{all-agree, all-numbers, all-over, bad-differs, changed-numerical, derived-holds, derived-over, kept-held, line-fails}
use Rattle.edit_paths.proofs.LetterLaws.{code-field, treated-kept}
use Rattle.edit_paths.proofs.PathBoxes.{avoids-forward, sets-along, sets_after, whole-caught}

-- A path is closed only where no point at which the edits hold has the record's values at its kept fields.

-- a value that is a code
pub code-value : (v : Value) → IsCodeValue v → (k : ℕ) × (v ≡ Code k)
code-value (Code k) is = (k, refl)
code-value (Number x) is = absurd is
code-value Bad is = absurd is

-- a point that agrees with a code has it
pub code-agrees : (v : Value) (p : Point) (f : ℕ) → IsCodeValue v → differs_from v p f ≡ false → p.code f ≡ code_in v
code-agrees (Code k) p f is agrees = grind (arith, agrees)
code-agrees (Number x) p f is agrees = absurd is
code-agrees Bad p f is agrees = absurd is

module _ (c : SearchCase) (is : IsCase c) (path : List Bool) where
  -- the line that closes the path
  pub lines-closed : (i : ℕ) (lines : List Derived) → is_closed (first_failing c path i lines) ≡ true → (d : Derived) × IsIn d lines
      × (asks_kept c path d.line ≡ true) × (fails_at d.line c.row ≡ Ok true)
  lines-closed i [] closed = absurd (cc)
  lines-closed i (d ∷ lines) closed = by (asks_kept c path d.line) (fails_at d.line c.row) refl refl (lines-closed (suc i) lines) closed
    where
      by : (asks : Bool) (r : Result Bool ℕ) → asks_kept c path d.line ≡ asks → fails_at d.line c.row ≡ r
          → (is_closed (first_failing c path (suc i) lines) ≡ true → (e : Derived) × IsIn e lines × (asks_kept c path e.line ≡ true)
          × (fails_at e.line c.row ≡ Ok true))
          → is_closed (if asks then closed_by i r (first_failing c path (suc i) lines) else first_failing c path (suc i) lines) ≡ true
          → (e : Derived) × IsIn e (d ∷ lines) × (asks_kept c path e.line ≡ true) × (fails_at e.line c.row ≡ Ok true)
      by true (Ok true) asks fails rest h = (d, inl refl, asks, fails)
      by true (Ok false) asks fails rest h = let (e, there, it_asks, it_fails) = rest h in (e, inr there, it_asks, it_fails)
      by true (Err f) asks fails rest h = absurd (cc)
      by false r asks fails rest h = let (e, there, it_asks, it_fails) = rest h in (e, inr there, it_asks, it_fails)

  -- what is known of a categorical field that the path treats
  pub treated-code : (f : ℕ) → IsIn f (treated_codes c path) → TakesCodes (shape_of c.survey.fields) f
      × (has_field (code_fields (shape_of c.survey.fields)) f ≡ true)
  treated-code f there =
      let at = there-has f (code_fields (shape_of c.survey.fields)) (in-filter-out (treats c path) f (code_fields (shape_of c.survey.fields)) there).0 in
      (takes-codes c.survey.fields f is.fields at, at)

  -- a field that the path keeps has a code of the record
  pub kept-code : keeps_bad c.survey.fields c.row path ≡ false → (f : ℕ) → IsIn f (treated_codes c path) → changes c.survey.fields path f ≡ false
      → IsCodeValue (value_of c.row f)
  kept-code none f there unchanged =
      let at = (treated-code f there).1 in
      (code-at c.survey.fields c.row f is.row (sym (ap (λ (fs : List ℕ). has_field fs f) (code_fields-same c.survey.fields)) ∙ at)).0
      (kept-held c is path none f (code-field c f at) (treated-kept c path f (in-filter-out (treats c path) f (code_fields (shape_of c.survey.fields)) there).1
      unchanged))

  -- and a point that agrees has it
  pub own-code : keeps_bad c.survey.fields c.row path ≡ false → (q : Point) → AgreesAlong c path q → (f : ℕ) → IsIn f (treated_codes c path)
      → changes c.survey.fields path f ≡ false → q.code f ≡ code_in (value_of c.row f)
  own-code none q agrees f there unchanged =
      code-agrees (value_of c.row f) q f (kept-code none f there unchanged)
      (agrees f (code-field c f (treated-code f there).1)
      (treated-kept c path f (in-filter-out (treats c path) f (code_fields (shape_of c.survey.fields)) there).1 unchanged))

  module _ (none : keeps_bad c.survey.fields c.row path ≡ false) (lines : List Derived) (made : system_of c.edits (changed_numbers c path) ≡ Ok lines) where
    no-line : (q : Point) → Meets c q → AgreesAlong c path q → is_closed (first_failing c path 0 lines) ≡ true → ⊥
    no-line q meets agrees closed =
        let (d, there, asks, fails) = lines-closed 0 lines closed in
        line-fails c is path d.line (derived-over c is path none lines made d there) none asks fails q (HasCodes-shape 0 c.survey.fields q meets.codes) agrees
        (derived-holds c is path none lines made q meets d there)

    module _ (enough : number_count c ≤ length path) (boxes : List BoxFrom) (told : failing_from 0 lines c.row [] ≡ Ok boxes) where
      -- the lines hold at a point that agrees exactly where it avoids the first boxes
      pub hold-avoid : (q : Point) → AgreesAlong c path q → AllHold (lines_of lines) q ↔ Avoids (shape_of c.survey.fields) (sets_of boxes) q
      hold-avoid q agrees =
          failing-avoids (shape_of c.survey.fields) c.row q lines (sets_of boxes) (all-over c is path none lines made)
          (all-numbers c is path none lines made enough) (all-agree c is path none lines made enough q agrees) (failing-sets lines c.row boxes told)

      -- each has a set for each categorical field
      pub first-sets : HaveSets (shape_of c.survey.fields) (sets_of boxes)
      first-sets sets there =
          let (b, was, same) = in-map-out (λ (b : BoxFrom). b.code_box.sets) sets boxes there in
          ap (λ (s : List ℕ). length s) same
          ∙ sized b (in-all (λ (b : BoxFrom). ComesFromLine lines c.row b.code_box b.origin) b boxes (failing-comes lines c.row boxes told) was)
        where
          sized : (b : BoxFrom) → ComesFromLine lines c.row b.code_box b.origin → length b.code_box.sets ≡ length (code_fields (shape_of c.survey.fields))
          sized b comes = at b.origin comes
            where
              at : (o : BoxOrigin) → ComesFromLine lines c.row b.code_box o → length b.code_box.sets ≡ length (code_fields (shape_of c.survey.fields))
              at (Failing i) h =
                  let (d, found, said) = some_with (λ (d : Derived). (fails_at d.line c.row ≡ Ok true) × (b.code_box ≡ box_of d.line.shape d.line.sets))
                  (slice_get lines i) h in
                  ap (λ (x : BoxParts). length x.sets) said.1 ∙ (derived-over c is path none lines made d (in-get d lines i found)).sets
              at (Unchanged i) h = absurd h
              at (Fixed i) h = absurd h
              at (Cover parts) h = absurd h

      no-box : (q : Point) → Meets c q → AgreesAlong c path q
          → is_closed (first_whole (position (λ (b : BoxFrom). are_whole (shape_of c.survey.fields) b.code_box.sets)
          (fold (boxes_after c path) boxes (treated_codes c path)))) ≡ true → ⊥
      no-box q meets agrees closed = by (position (λ (b : BoxFrom). are_whole (shape_of c.survey.fields) b.code_box.sets)
          (fold (boxes_after c path) boxes (treated_codes c path))) refl closed
        where
          held : HasCodes 0 (shape_of c.survey.fields) q
          held = HasCodes-shape 0 c.survey.fields q meets.codes

          avoids : Avoids (shape_of c.survey.fields) (fold (sets_after c path) (sets_of boxes) (treated_codes c path)) q
          avoids =
              avoids-forward c path (sets_of boxes) (treated_codes c path) q
              (λ f there. ((treated-code f there).0, (treated-code f there).1, own-code none q agrees f there)) first-sets held
              ((hold-avoid q agrees).0 (system-follows c is (changed_numbers c path) lines made q (changed-numerical c is path) meets.edits))

          by : (o : Option ℕ) → position (λ (b : BoxFrom). are_whole (shape_of c.survey.fields) b.code_box.sets)
              (fold (boxes_after c path) boxes (treated_codes c path)) ≡ o → is_closed (first_whole o) ≡ true → ⊥
          by None e h = cc h
          by (Some i) e h =
              let (b, there, whole) = found-passes (λ (b : BoxFrom). are_whole (shape_of c.survey.fields) b.code_box.sets)
              (fold (boxes_after c path) boxes (treated_codes c path)) i e in
              whole-caught (shape_of c.survey.fields) (fold (sets_after c path) (sets_of boxes) (treated_codes c path)) b.code_box.sets q
              (subst (λ (bs : List (List ℕ)). IsIn b.code_box.sets bs) (sets-along c path boxes (treated_codes c path))
              (in-map (λ (b : BoxFrom). b.code_box.sets) b (fold (boxes_after c path) boxes (treated_codes c path)) there))
              whole held avoids

  -- no point at which the edits hold has the record's values at the fields that a closed path keeps
  pub closed-path : IsClosed c path → (q : Point) → Meets c q → AgreesAlong c path q → ⊥
  closed-path closed q meets agrees = by_bad (keeps_bad c.survey.fields c.row path) refl closed
    where
      at_boxes : (none : keeps_bad c.survey.fields c.row path ≡ false) (lines : List Derived) → system_of c.edits (changed_numbers c path) ≡ Ok lines
          → number_count c ≤ length path
          → (r : Result (List BoxFrom) LineFault) → failing_from 0 lines c.row [] ≡ r → is_closed (state_with_boxes c path lines r) ≡ true → ⊥
      at_boxes none lines made enough (Err fault) told h = cc h
      at_boxes none lines made enough (Ok boxes) told h = by (length path == number_count c) h
        where
          by : (b : Bool)
              → is_closed (if b then first_failing c path 0 lines else first_whole
              (position (λ (b : BoxFrom). are_whole (shape_of c.survey.fields) b.code_box.sets) (fold (boxes_after c path) boxes (treated_codes c path))))
              ≡ true → ⊥
          by true h = no-line none lines made q meets agrees h
          by false h = no-box none lines made enough boxes told q meets agrees h

      at_system : (none : keeps_bad c.survey.fields c.row path ≡ false) (r : Result (List Derived) SystemOverflow) → system_of c.edits (changed_numbers c path)
          ≡ r → is_closed (state_with_system c path r) ≡ true → ⊥
      at_system none (Err o) made h = cc h
      at_system none (Ok lines) made h = by (nat_lt (length path) (number_count c)) refl h
        where
          by : (b : Bool) → nat_lt (length path) (number_count c) ≡ b
              → is_closed (if b then first_failing c path 0 lines else state_with_boxes c path lines (failing_from 0 lines c.row [])) ≡ true → ⊥
          by true e h = no-line none lines made q meets agrees h
          by false e h = at_boxes none lines made (ltb-false (length path) (number_count c) e) (failing_from 0 lines c.row []) refl h

      by_bad : (b : Bool) → keeps_bad c.survey.fields c.row path ≡ b
          → is_closed (if b then ClosedBad else state_with_system c path (system_of c.edits (changed_numbers c path))) ≡ true → ⊥
      by_bad true e h = bad-differs c is path e q agrees
      by_bad false e h = at_system e (system_of c.edits (changed_numbers c path)) refl h
