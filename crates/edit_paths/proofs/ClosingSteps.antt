use Rattle.std.proofs.Common.{◌≡◌, ◌==◌, inl, inr, ℕ, suc, ◌≤◌, nat_lt, Bool, true, false, if◌then◌else◌, List, [], ◌∷◌, Option, Some, None, Result, Ok, Err}
use Rattle.std.proofs.Common.{get_or, length, map, slice_get, refl, sym, ap, ◌∙◌, subst, arith}
use Rattle.std.specs.List.{fold, position}
use Rattle.std.proofs.lemmas.List.Quantifiers.{position-Some}
use Rattle.std.proofs.lemmas.Option.{slice_get-get_or}
use Rattle.std.proofs.lemmas.Bool.{ltb-false}
use Rattle.edit_model.specs.Corrections.{path_order}
use Rattle.edit_model.specs.FieldSets.{has_number}
use Rattle.edit_model.specs.RowPoints.{code_in}
use Rattle.edit_model.specs.Rows.{value_of}
use Rattle.edit_model.specs.declared.value.Value.TheVariants.{Code}
use Rattle.edit_line.specs.Boxes.{are_whole}
use Rattle.edit_line.specs.Lines.{HasShape, LineParts}
use Rattle.edit_line.specs.Reductions.{IsIn}
use Rattle.edit_line.specs.Shapes.{code_fields, has_field, number_fields, shape_of}
use Rattle.edit_line.specs.Sums.{fails_at, stands_only}
use Rattle.edit_line.specs.declared.derived.Derived.{Derived}
use Rattle.edit_line.proofs.FactorLaws.{at-factors, only-AtFactors}
use Rattle.edit_line.proofs.ListPlaces.{StandsAt, first-at, later-at, whole-at}
use Rattle.edit_line.proofs.Members.{in-all, in-filter-out, in-get}
use Rattle.linear_elim.specs.Systems.{SystemOverflow, system_of}
use Rattle.categ_combine.specs.BoxLists.{AreBoxesOver}
use Rattle.categ_combine.specs.Covers.{covered_from}
use Rattle.categ_combine.specs.FailingBoxes.{LineFault, failing_from}
use Rattle.categ_combine.specs.Fixing.{fixed_from}
use Rattle.categ_combine.specs.Origins.{ComesFromCover, ComesFromFix, ComesFromLine}
use Rattle.categ_combine.specs.declared.box_from.BoxFrom.{BoxFrom}
use Rattle.categ_combine.proofs.BoxOrigins.{covered-comes, failing-comes, fixed-comes}
use Rattle.categ_combine.proofs.OverLaws.{over-failing}
use Rattle.derivation.specs.Premises.{Premises, premises_of}
use Rattle.derivation.specs.ValidSteps.{steps_result}
use Rattle.derivation.specs.declared.proved.Proved.{Proved}
use Rattle.derivation.specs.declared.proved.Proved.TheVariants as proved
use Rattle.bound_cert.specs.Paths.{changes, keeps, keeps_bad}
use Rattle.edit_paths.specs.Cases.{SearchCase, IsCase}
use Rattle.edit_paths.specs.Histories.{History, box_by, making_at, steps_to, with_boxes}
use Rattle.edit_paths.specs.PathHistories.{box_history, boxes_reached, line_history}
use Rattle.edit_paths.specs.Paths.{changed_numbers, number_count, treated_codes, treats}
use Rattle.edit_paths.specs.States.{asks_kept, boxes_after, closed_by, first_boxes, first_failing, first_whole, lines_along, or_empty, state_of}
use Rattle.edit_paths.specs.States.{state_with_boxes, state_with_system}
use Rattle.edit_paths.specs.declared.state.PathState.TheVariants.{ClosedBad, ClosedBox, ClosedLine}
use Rattle.edit_paths.proofs.BoxHistories.{box-value, box_values, covered-made, first-made, fixed-made}
use Rattle.edit_paths.proofs.ClosedPaths.{code-value, kept-code, treated-code}
use Rattle.edit_paths.proofs.KeptLines.{IsKeptAlone, all-over, derived-over, kept-alone, standing}
use Rattle.edit_paths.proofs.LetterLaws.{code-field, number-field, treated-kept}
use Rattle.edit_paths.proofs.LineHistories.{AreUsable, line-history-made, line-value, line_values}
use Rattle.edit_paths.proofs.PathBoxes.{after-over}
use Rattle.edit_paths.proofs.StepsWritten.{Elements, IsMade, IsMadeBy, last_of, list-made, steps-valid}

-- The steps of the line, or of the box, that closes a path are valid, and prove it.

-- the given lines, those that are usable, and the bits of the kept fields
module _ (c : SearchCase) (is : IsCase c) (path : List Bool) (none : keeps_bad c.survey.fields c.row path ≡ false) (given : List LineParts) (usable : List Bool)
    (kept : ℕ)
    (kept_is : (f : ℕ) → has_field (path_order c.survey.fields) f ≡ true → has_number kept f ≡ keeps c.survey.fields path f)
    (usable_is : AreUsable (premises_of (shape_of c.survey.fields) given usable c.row kept) c.edits) where
  abbrev pub premises : Premises
  premises = premises_of (shape_of c.survey.fields) given usable c.row kept

  -- of a line in which only kept fields stand, only fields of the set do
  pub only-kept : (line : LineParts) → HasShape (shape_of c.survey.fields) line → IsKeptAlone c is path line
      → stands_only (has_number kept) (number_fields line.shape) line.factors ≡ true
  only-kept line over alone =
      only-AtFactors (has_number kept) (number_fields line.shape) line.factors
      (at-factors (λ f. has_number kept f ≡ true) line (λ f stands. kept_is f (number-field c f (standing c is path line over none alone f stands))
      ∙ alone f stands))

  module _ (lines : List Derived) (made : system_of c.edits (changed_numbers c path) ≡ Ok lines) where
    same_lines : lines_along c path ≡ lines
    same_lines = ap (λ r. or_empty r) made

    -- the steps of a line of the path's system
    line-valid : (i : ℕ) (d : Derived) → slice_get lines i ≡ Some d → steps_result premises (steps_to (line_history c path) i) ≡ Ok (proved.Line d.line)
    line-valid i d at =
        let (values, history, last) = line-history-made c is path premises lines usable_is made in
        steps-valid premises (line_history c path) values history i (proved.Line d.line) (ap (λ (vs : List Proved). slice_get vs i) last
        ∙ line-value lines i d at)

    module _ (enough : number_count c ≤ length path) (boxes : List BoxFrom) (told : failing_from 0 lines c.row [] ≡ Ok boxes) where
      same_boxes : first_boxes c path ≡ boxes
      same_boxes = ap (λ (ls : List Derived). or_empty (failing_from 0 ls c.row [])) same_lines ∙ ap (λ r. or_empty r) told

      -- each box is made from what was proved as its origin says, where the field was treated last
      abbrev BoxesMade : List Proved → ℕ → List BoxFrom → Type 0
      BoxesMade before field list = (b : BoxFrom) → IsIn b list → IsMadeBy premises before (proved.Box b.code_box) (box_by field b.origin)

      boxes-listed : (before : List Proved) (field : ℕ) (list : List BoxFrom) → BoxesMade before field list → (history : History) (values : Elements)
          → last_of values ≡ before → IsMade premises history values
          → IsMade premises (with_boxes history field list) (box_values list ∷ values)
      boxes-listed before field list each history values last history_made = (
        subst (λ (vs : List Proved). (i : ℕ) (v : Proved) → slice_get (box_values list) i ≡ Some v
            → IsMadeBy premises vs v (making_at (map (λ (b : BoxFrom). box_by field b.origin) list) i)) (sym last)
            (list-made premises before (λ (b : BoxFrom). proved.Box b.code_box) (λ (b : BoxFrom). box_by field b.origin) list each),
        history_made,
      )

      first-each : BoxesMade (line_values lines) 0 boxes
      first-each b there =
          first-made premises lines (λ d at. (derived-over c is path none lines made d at).same)
          (λ d at. only-kept d.line (derived-over c is path none lines made d at) (kept-alone c is path none lines made enough d at)) b.code_box b.origin
          (in-all (λ (b : BoxFrom). ComesFromLine lines c.row b.code_box b.origin) b boxes (failing-comes lines c.row boxes told) there)

      next-each : (list : List BoxFrom) (f : ℕ) → IsIn f (treated_codes c path) → AreBoxesOver (shape_of c.survey.fields) list
          → BoxesMade (box_values list) f (boxes_after c path list f)
      next-each list f there over b = by (changes c.survey.fields path f) refl
        where
          by : (t : Bool) → changes c.survey.fields path f ≡ t
              → IsIn b (if t then covered_from (shape_of c.survey.fields) list f else fixed_from (shape_of c.survey.fields) list f (code_in (value_of c.row f)))
              → IsMadeBy premises (box_values list) (proved.Box b.code_box) (box_by f b.origin)
          by true e b_in =
              covered-made premises list f (treated-code c is path f there).1 b.code_box b.origin
              (in-all (λ (b : BoxFrom). ComesFromCover (shape_of c.survey.fields) list f b.code_box b.origin) b (covered_from (shape_of c.survey.fields) list f)
              (covered-comes (shape_of c.survey.fields) list f over (treated-code c is path f there).0) b_in)
          by false e b_in =
              let keeps_it = treated-kept c path f (in-filter-out (treats c path) f (code_fields (shape_of c.survey.fields)) there).1 e in
              let (k, own) = code-value (value_of c.row f) (kept-code c is path none f there e) in
              fixed-made premises list f (treated-code c is path f there).1 (code_in (value_of c.row f))
              (kept_is f (code-field c f (treated-code c is path f there).1) ∙ keeps_it) (own ∙ ap (λ n. Code n) (sym (ap code_in own))) b.code_box b.origin
              (in-all (λ (b : BoxFrom). ComesFromFix (shape_of c.survey.fields) list f (code_in (value_of c.row f)) b.code_box b.origin) b
              (fixed_from (shape_of c.survey.fields) list f (code_in (value_of c.row f)))
              (fixed-comes (shape_of c.survey.fields) list f over (code_in (value_of c.row f))) b_in)

      boxes-made : (history : History) (before : Elements) (list : List BoxFrom) (fields : List ℕ) → ((f : ℕ) → IsIn f fields → IsIn f (treated_codes c path))
          → AreBoxesOver (shape_of c.survey.fields) list → IsMade premises history before
          → last_of before ≡ box_values list → (values : Elements) × IsMade premises (boxes_reached c path history list fields) values
          × (last_of values ≡ box_values (fold (boxes_after c path) list fields))
      boxes-made history before list [] among over history_made last = (before, history_made, last)
      boxes-made history before list (f ∷ fields) among over history_made last =
          boxes-made (with_boxes history f (boxes_after c path list f)) (box_values (boxes_after c path list f) ∷ before) (boxes_after c path list f) fields
          (λ g at. among g (inr at)) (after-over c path list f over)
          (boxes-listed (box_values list) f (boxes_after c path list f) (next-each list f (among f (inl refl)) over) history before last history_made) refl

      history-made : (values : Elements) × IsMade premises (boxes_reached c path (with_boxes (line_history c path) 0 boxes) boxes (treated_codes c path)) values
          × (last_of values ≡ box_values (fold (boxes_after c path) boxes (treated_codes c path)))
      history-made =
          let (values, history, last) = line-history-made c is path premises lines usable_is made in
          boxes-made (with_boxes (line_history c path) 0 boxes) (box_values boxes ∷ values) boxes (treated_codes c path) (λ f at. at)
          (over-failing (shape_of c.survey.fields) 0 lines c.row [] boxes (all-over c is path none lines made) (λ k d below. absurd (omega arith)) told)
          (boxes-listed (line_values lines) 0 boxes first-each (line_history c path) values last history) refl

      -- the steps of a box along the path
      box-valid : (i : ℕ) (b : BoxFrom) → slice_get (fold (boxes_after c path) boxes (treated_codes c path)) i ≡ Some b
          → steps_result premises (steps_to (box_history c path) i) ≡ Ok (proved.Box b.code_box)
      box-valid i b at =
          let (values, history, last) = history-made in
          ap (λ (bs : List BoxFrom). steps_result premises (steps_to (boxes_reached c path (with_boxes (line_history c path) 0 bs) bs (treated_codes c path))
          i)) same_boxes
          ∙ steps-valid premises (boxes_reached c path (with_boxes (line_history c path) 0 boxes) boxes (treated_codes c path)) values history i
          (proved.Box b.code_box)
          (ap (λ (vs : List Proved). slice_get vs i) last ∙ box-value (fold (boxes_after c path) boxes (treated_codes c path)) i b at)

  -- ---- what closes a path

  -- a line that steps prove, which asks something of the kept numbers alone, and fails
  pub record IsClosing (k : ℕ) (line : LineParts) : Type 0 where
    pub valid : steps_result premises (steps_to (line_history c path) k) ≡ Ok (proved.Line line)
    pub asks : asks_kept c path line ≡ true
    pub fails : fails_at line c.row ≡ Ok true
    pub over : HasShape (shape_of c.survey.fields) line

  -- the line that closes the path
  line-closing : (whole : List Derived) (i k : ℕ) (rest : List Derived) → StandsAt whole i rest → first_failing c path i rest ≡ ClosedLine k → (d : Derived)
      × (slice_get whole k ≡ Some d) × (asks_kept c path d.line ≡ true) × (fails_at d.line c.row ≡ Ok true)
  line-closing whole i k [] at e = absurd (cc)
  line-closing whole i k (d ∷ rest) at e = by (asks_kept c path d.line) refl (fails_at d.line c.row) refl
      (line-closing whole (suc i) k rest (later-at whole i d rest at)) e
    where
      by : (asks : Bool) → asks_kept c path d.line ≡ asks → (r : Result Bool ℕ) → fails_at d.line c.row ≡ r
          → (first_failing c path (suc i) rest ≡ ClosedLine k → (d : Derived) × (slice_get whole k ≡ Some d) × (asks_kept c path d.line ≡ true)
          × (fails_at d.line c.row ≡ Ok true))
          → (if asks then closed_by i r (first_failing c path (suc i) rest) else first_failing c path (suc i) rest) ≡ ClosedLine k → (d : Derived)
          × (slice_get whole k ≡ Some d) × (asks_kept c path d.line ≡ true) × (fails_at d.line c.row ≡ Ok true)
      by true asks (Ok true) fails later h = let same : i ≡ k = cc in (d, ap (λ n. slice_get whole n) (sym same) ∙ first-at whole i d rest at, asks, fails)
      by true asks (Ok false) fails later h = later h
      by true asks (Err f) fails later h = absurd (cc)
      by false asks r fails later h = later h

  -- a closed path's line is one that steps prove
  pub closing-line : (k : ℕ) → state_of c path ≡ ClosedLine k → (line : LineParts) × IsClosing k line
  closing-line k e = by_bad (keeps_bad c.survey.fields c.row path) none e
    where
      at_lines : (lines : List Derived) → system_of c.edits (changed_numbers c path) ≡ Ok lines → first_failing c path 0 lines ≡ ClosedLine k
          → (line : LineParts) × IsClosing k line
      at_lines lines made h =
          let (d, at, asks, fails) = line-closing lines 0 k lines (whole-at lines) h in (
            d.line,
            record {
              valid = line-valid lines made k d at;
              asks = asks;
              fails = fails;
              over =
                  derived-over c is path none lines made d (in-get d lines k at);
            },
          )

      at_boxes : (lines : List Derived) → system_of c.edits (changed_numbers c path) ≡ Ok lines → (r : Result (List BoxFrom) LineFault)
          → state_with_boxes c path lines r ≡ ClosedLine k → (line : LineParts) × IsClosing k line
      at_boxes lines made (Err fault) h = absurd (cc)
      at_boxes lines made (Ok boxes) h = by (length path == number_count c) (position (λ (b : BoxFrom). are_whole (shape_of c.survey.fields) b.code_box.sets)
          (fold (boxes_after c path) boxes (treated_codes c path))) h
        where
          by : (b : Bool) (o : Option ℕ) → (if b then first_failing c path 0 lines else first_whole o) ≡ ClosedLine k → (line : LineParts) × IsClosing k line
          by true o h = at_lines lines made h
          by false None h = absurd (cc)
          by false (Some i) h = absurd (cc)

      at_system : (r : Result (List Derived) SystemOverflow) → system_of c.edits (changed_numbers c path) ≡ r → state_with_system c path r ≡ ClosedLine k
          → (line : LineParts) × IsClosing k line
      at_system (Err o) made h = absurd (cc)
      at_system (Ok lines) made h = by (nat_lt (length path) (number_count c)) h
        where
          by : (b : Bool) → (if b then first_failing c path 0 lines else state_with_boxes c path lines (failing_from 0 lines c.row [])) ≡ ClosedLine k
              → (line : LineParts) × IsClosing k line
          by true h = at_lines lines made h
          by false h = at_boxes lines made (failing_from 0 lines c.row []) h

      by_bad : (b : Bool) → b ≡ false → (if b then ClosedBad else state_with_system c path (system_of c.edits (changed_numbers c path))) ≡ ClosedLine k
          → (line : LineParts) × IsClosing k line
      by_bad true no_bad h = absurd (cc)
      by_bad false no_bad h = at_system (system_of c.edits (changed_numbers c path)) refl h

  -- a box that steps prove, with all codes
  pub record IsClosingBox (k : ℕ) (b : BoxFrom) : Type 0 where
    pub valid : steps_result premises (steps_to (box_history c path) k) ≡ Ok (proved.Box b.code_box)
    pub whole : are_whole (shape_of c.survey.fields) b.code_box.sets ≡ true

  -- a closed path's box is one that steps prove
  pub closing-box : (k : ℕ) → state_of c path ≡ ClosedBox k → (b : BoxFrom) × IsClosingBox k b
  closing-box k e = by_bad (keeps_bad c.survey.fields c.row path) none e
    where
      no_line : (i : ℕ) (lines : List Derived) → first_failing c path i lines ≡ ClosedBox k → ⊥
      no_line i [] h = cc h
      no_line i (d ∷ lines) h = by (asks_kept c path d.line) (fails_at d.line c.row) (no_line (suc i) lines) h
        where
          by : (asks : Bool) (r : Result Bool ℕ) → (first_failing c path (suc i) lines ≡ ClosedBox k → ⊥)
              → (if asks then closed_by i r (first_failing c path (suc i) lines) else first_failing c path (suc i) lines) ≡ ClosedBox k → ⊥
          by true (Ok true) later h = cc h
          by true (Ok false) later h = later h
          by true (Err f) later h = cc h
          by false r later h = later h

      at_boxes : (lines : List Derived) → system_of c.edits (changed_numbers c path) ≡ Ok lines → number_count c ≤ length path
          → (r : Result (List BoxFrom) LineFault) → failing_from 0 lines c.row [] ≡ r → state_with_boxes c path lines r ≡ ClosedBox k
          → (b : BoxFrom) × IsClosingBox k b
      at_boxes lines made enough (Err fault) told h = absurd (cc)
      at_boxes lines made enough (Ok boxes) told h =
          by (length path == number_count c) (position (λ (b : BoxFrom). are_whole (shape_of c.survey.fields) b.code_box.sets)
          (fold (boxes_after c path) boxes (treated_codes c path))) refl h
        where
          first : BoxFrom → (position (λ (b : BoxFrom). are_whole (shape_of c.survey.fields) b.code_box.sets)
              (fold (boxes_after c path) boxes (treated_codes c path)) ≡ Some k) → (b : BoxFrom) × IsClosingBox k b
          first d at =
              let (below, whole, earlier) = position-Some (λ (b : BoxFrom). are_whole (shape_of c.survey.fields) b.code_box.sets)
              (fold (boxes_after c path) boxes (treated_codes c path)) k d at in (
                get_or (fold (boxes_after c path) boxes (treated_codes c path)) k d,
                record {
                  valid = box-valid lines made enough boxes told k (get_or (fold (boxes_after c path) boxes (treated_codes c path)) k d)
                      (slice_get-get_or (fold (boxes_after c path) boxes (treated_codes c path)) k d below);
                  whole = whole;
                },
              )

          by : (b : Bool) (o : Option ℕ) → position (λ (b : BoxFrom). are_whole (shape_of c.survey.fields) b.code_box.sets)
              (fold (boxes_after c path) boxes (treated_codes c path)) ≡ o
              → (if b then first_failing c path 0 lines else first_whole o) ≡ ClosedBox k → (b : BoxFrom) × IsClosingBox k b
          by true o at h = absurd (no_line 0 lines h)
          by false None at h = absurd (cc)
          by false (Some i) at h = some (fold (boxes_after c path) boxes (treated_codes c path)) refl
            where
              same : i ≡ k
              same = cc

              some : (bs : List BoxFrom) → fold (boxes_after c path) boxes (treated_codes c path) ≡ bs → (b : BoxFrom) × IsClosingBox k b
              some [] none_are = absurd (cc (sym at
                  ∙ ap (λ (bs : List BoxFrom). position (λ (b : BoxFrom). are_whole (shape_of c.survey.fields) b.code_box.sets) bs) none_are))
              some (d ∷ bs) are = first d (at ∙ ap Some same)

      at_system : (r : Result (List Derived) SystemOverflow) → system_of c.edits (changed_numbers c path) ≡ r → state_with_system c path r ≡ ClosedBox k
          → (b : BoxFrom) × IsClosingBox k b
      at_system (Err o) made h = absurd (cc)
      at_system (Ok lines) made h = by (nat_lt (length path) (number_count c)) refl h
        where
          by : (b : Bool) → nat_lt (length path) (number_count c) ≡ b
              → (if b then first_failing c path 0 lines else state_with_boxes c path lines (failing_from 0 lines c.row [])) ≡ ClosedBox k → (b : BoxFrom)
              × IsClosingBox k b
          by true less h = absurd (no_line 0 lines h)
          by false less h = at_boxes lines made (ltb-false (length path) (number_count c) less) (failing_from 0 lines c.row []) refl h

      by_bad : (b : Bool) → b ≡ false → (if b then ClosedBad else state_with_system c path (system_of c.edits (changed_numbers c path))) ≡ ClosedBox k
          → (b : BoxFrom) × IsClosingBox k b
      by_bad true no_bad h = absurd (cc)
      by_bad false no_bad h = at_system (system_of c.edits (changed_numbers c path)) refl h
