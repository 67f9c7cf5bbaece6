use Rattle.std.proofs.Common.{All, ◌≡◌, ◌≢◌, ◌++◌, ◌||◌, ℕ, zero, suc, ◌<◌, ◌≤◌, Bool, cond, true, false, not, if◌then◌else◌, List, [], ◌∷◌, Result}
use Rattle.std.proofs.Common.{Ok, Err, length, slice_index_or, refl, sym, ap, ◌∙◌, inl, inr, arith}
use Rattle.std.proofs.lemmas.List.{get_or_past}
use Rattle.std.specs.List.{filter, fold}
use Rattle.foundation.specs.Results.{◌>>=◌, fault_as}
use Rattle.edit_line.specs.EditSets.{base_lines}
use Rattle.edit_line.specs.Lines.{HaveShape}
use Rattle.edit_line.specs.Reductions.{IsIn, lines_of, reduce_derived}
use Rattle.edit_line.specs.Shapes.{Domain, code_fields, number_fields, shape_of}
use Rattle.edit_line.specs.declared.derived.Derived.{Derived}
use Rattle.linear_elim.specs.Steps.{StepOverflow, step_result}
use Rattle.linear_elim.specs.Systems.{fold_result, overflow_at, system_of}
use Rattle.categ_combine.specs.declared.box_from.BoxFrom.{BoxFrom}
use Rattle.edit_model.specs.Corrections.{path_order}
use Rattle.bound_cert.specs.Paths.{changes, path_place}
use Rattle.edit_paths.specs.Cases.{SearchCase}
use Rattle.edit_paths.specs.Histories.{History, with_boxes, with_lines}
use Rattle.edit_paths.specs.PathHistories.{and_next, box_history, boxes_reached, line_history, lines_reached}
use Rattle.edit_paths.specs.Paths.{changed_numbers, field_count, number_count, treated_codes, treats}
use Rattle.edit_paths.specs.States.{boxes_after, boxes_along, first_boxes}
use Rattle.edit_paths.proofs.ChildLaws.{after-same, child-boxes, child-codes, child-numbers, child-numbers-same, first-same, treated-within}
use Rattle.edit_paths.proofs.FieldPlaces.{Placed, codes-placed}
use Rattle.path_walk.specs.inner.Histories.{with_system}

-- The lists that lead to the system and the boxes of a path, and of a path with one letter more.

-- the lines of a list have its shape
pub line-shapes : (shape : List Domain) (lines : List Derived) → HaveShape shape (lines_of lines) → All (λ (d : Derived). d.line.shape ≡ shape) lines
line-shapes shape [] over k d below = absurd (omega arith)
line-shapes shape (x ∷ lines) over zero d below = (over zero d.line (omega arith)).same
line-shapes shape (x ∷ lines) over (suc k) d below = line-shapes shape lines (λ j e under. over (suc j) e (omega arith)) k d (omega arith)

-- the lists of one field more
lines-more : (before : History) (lines : List Derived) (fields : List ℕ) (f : ℕ)
    → lines_reached before lines (fields ++ f ∷ []) ≡ with_system (lines_reached before lines fields) (fold_result lines (fields ++ f ∷ []))
lines-more before lines [] f = by (step_result lines f)
  where
    by : (r : Result (List Derived) StepOverflow)
        → and_next (with_lines before lines) r (λ next. with_lines (with_lines before lines) next)
        ≡ with_system (with_lines before lines) ((fault_as (overflow_at f) r >>= (λ next. Ok next)))
    by (Ok next) = refl
    by (Err overflow) = refl
lines-more before lines (g ∷ fields) f = by (step_result lines g) (λ next. lines-more (with_lines before lines) next fields f)
  where
    by : (r : Result (List Derived) StepOverflow)
        → ((next : List Derived) → lines_reached (with_lines before lines) next (fields ++ f ∷ [])
        ≡ with_system (lines_reached (with_lines before lines) next fields) (fold_result next (fields ++ f ∷ [])))
        → and_next (with_lines before lines) r (λ next. lines_reached (with_lines before lines) next (fields ++ f ∷ []))
        ≡ with_system (and_next (with_lines before lines) r (λ next. lines_reached (with_lines before lines) next fields))
        ((fault_as (overflow_at g) r >>= (λ next. fold_result next (fields ++ f ∷ []))))
    by (Ok next) more = more next
    by (Err overflow) more = refl

none-chosen : (fields : List ℕ) → filter (λ f. false) fields ≡ []
none-chosen [] = refl
none-chosen (f ∷ fields) = none-chosen fields

-- the empty path changes nothing
pub none-changed : (c : SearchCase) → changed_numbers c [] ≡ []
none-changed c = none-chosen (number_fields (shape_of c.survey.fields))

-- its lists are those of the edits alone
pub history-first : (c : SearchCase) → with_system [] (system_of c.edits (changed_numbers c [])) ≡ line_history c []
history-first c =
    ap (λ (fs : List ℕ). with_system [] (system_of c.edits fs)) (none-changed c)
    ∙ sym (ap (λ (fs : List ℕ). lines_reached [] (reduce_derived (base_lines c.edits)) fs) (none-changed c))

module _ (c : SearchCase) (path : List Bool) (b : Bool) (short : length path < field_count c) where
  -- a letter that changes a numerical field
  pub history-changed : b ≡ true → length path < number_count c
      → line_history c (path ++ b ∷ []) ≡ with_system (line_history c path) (system_of c.edits (changed_numbers c (path ++ b ∷ [])))
  history-changed changed few =
      ap (λ (fs : List ℕ). lines_reached [] (reduce_derived (base_lines c.edits)) fs) numbers
      ∙ lines-more [] (reduce_derived (base_lines c.edits)) (changed_numbers c path) (slice_index_or (number_fields (shape_of c.survey.fields)) (length path) 0)
      ∙ ap (λ (fs : List ℕ). with_system (line_history c path) (system_of c.edits fs)) (sym numbers)
    where
      numbers : changed_numbers c (path ++ b ∷ []) ≡ changed_numbers c path ++ slice_index_or (number_fields (shape_of c.survey.fields)) (length path) 0 ∷ []
      numbers =
          child-numbers c path b short few ∙ ap (λ x. changed_numbers c path
          ++ (if x then slice_index_or (number_fields (shape_of c.survey.fields)) (length path) 0 ∷ [] else [])) changed

  -- another letter
  pub history-same : number_count c ≤ length path → line_history c (path ++ b ∷ []) ≡ line_history c path
  history-same enough = ap (λ (fs : List ℕ). lines_reached [] (reduce_derived (base_lines c.edits)) fs) (child-numbers-same c path b short enough)

-- ---- boxes

module _ (c : SearchCase) (path : List Bool) where
  -- the boxes of one field more
  boxes-more : (history : History) (boxes : List BoxFrom) (fields : List ℕ) (f : ℕ)
      → boxes_reached c path history boxes (fields ++ f ∷ [])
      ≡ with_boxes (boxes_reached c path history boxes fields) f (boxes_after c path (fold (boxes_after c path) boxes fields) f)
  boxes-more history boxes [] f = refl
  boxes-more history boxes (g ∷ fields) f = boxes-more (with_boxes history g (boxes_after c path boxes g)) (boxes_after c path boxes g) fields f

  -- the path says nothing of the fields behind it
  none-treated : (k : ℕ) (fields : List ℕ) → length path ≤ k → Placed c k fields → filter (treats c path) fields ≡ []
  none-treated k [] within placed = refl
  none-treated k (f ∷ fields) within placed =
      ap (λ t. cond t (f ∷ filter (treats c path) fields) (filter (treats c path) fields)) past ∙ none-treated (suc k) fields (omega (arith, within)) placed.1
    where
      past : treats c path f ≡ false
      past =
          ap (λ x. not x || changes c.survey.fields path f) (get_or_past path (path_place c.survey.fields f) true (omega (arith, within, placed.0)))
          ∙ get_or_past path (path_place c.survey.fields f) false (omega (arith, within, placed.0))

  -- a path of numerical fields alone has the first boxes
  module _ (few : length path ≤ number_count c) where
    none : treated_codes c path ≡ []
    none = none-treated (number_count c) (code_fields (shape_of c.survey.fields)) few (codes-placed c)

    pub boxes-first : boxes_along c path ≡ first_boxes c path
    boxes-first = ap (λ (fs : List ℕ). fold (boxes_after c path) (first_boxes c path) fs) none

    pub box_history-first : box_history c path ≡ with_boxes (line_history c path) 0 (first_boxes c path)
    box_history-first = ap (λ (fs : List ℕ). boxes_reached c path (with_boxes (line_history c path) 0 (first_boxes c path)) (first_boxes c path) fs) none

module _ (c : SearchCase) (path : List Bool) (b : Bool) (short : length path < field_count c) where
  from-same : (history : History) (boxes : List BoxFrom) (fields : List ℕ) → ((f : ℕ) → IsIn f fields → path_place c.survey.fields f ≢ length path)
      → boxes_reached c (path ++ b ∷ []) history boxes fields ≡ boxes_reached c path history boxes fields
  from-same history boxes [] each = refl
  from-same history boxes (f ∷ fields) each =
      ap (λ (bs : List BoxFrom). boxes_reached c (path ++ b ∷ []) (with_boxes history f bs) bs fields) (after-same c path b short boxes f (each f (inl refl)))
      ∙ from-same (with_boxes history f (boxes_after c path boxes f)) (boxes_after c path boxes f) fields (λ g there. each g (inr there))

  fold-same : (boxes : List BoxFrom) (fields : List ℕ) → ((f : ℕ) → IsIn f fields → path_place c.survey.fields f ≢ length path)
      → fold (boxes_after c (path ++ b ∷ [])) boxes fields ≡ fold (boxes_after c path) boxes fields
  fold-same boxes [] each = refl
  fold-same boxes (f ∷ fields) each =
      ap (λ (bs : List BoxFrom). fold (boxes_after c (path ++ b ∷ [])) bs fields) (after-same c path b short boxes f (each f (inl refl)))
      ∙ fold-same (boxes_after c path boxes f) fields (λ g there. each g (inr there))

  -- a letter for a categorical field
  pub box_history-next : number_count c ≤ length path
      → box_history c (path ++ b ∷ []) ≡ with_boxes (box_history c path) (slice_index_or (path_order c.survey.fields) (length path) 0)
      (boxes_along c (path ++ b ∷ []))
  box_history-next enough =
      let start = λ (history : History) (boxes : List BoxFrom) (fields : List ℕ). boxes_reached c (path ++ b ∷ []) (with_boxes history 0 boxes) boxes fields in
      ap (λ (h : History). start h (first_boxes c (path ++ b ∷ [])) (treated_codes c (path ++ b ∷ []))) (history-same c path b short enough)
      ∙ ap (λ (bs : List BoxFrom). start (line_history c path) bs (treated_codes c (path ++ b ∷ []))) (first-same c path b short enough)
      ∙ ap (λ (fs : List ℕ). start (line_history c path) (first_boxes c path) fs) (child-codes c path b short enough)
      ∙ boxes-more c (path ++ b ∷ []) (with_boxes (line_history c path) 0 (first_boxes c path)) (first_boxes c path) (treated_codes c path)
      (slice_index_or (path_order c.survey.fields) (length path) 0)
      ∙ ap (λ (h : History). with_boxes h (slice_index_or (path_order c.survey.fields) (length path) 0)
      (boxes_after c (path ++ b ∷ []) (fold (boxes_after c (path ++ b ∷ [])) (first_boxes c path) (treated_codes c path))
      (slice_index_or (path_order c.survey.fields) (length path) 0)))
      (from-same (with_boxes (line_history c path) 0 (first_boxes c path)) (first_boxes c path) (treated_codes c path) (treated-within c path b short))
      ∙ ap (λ (bs : List BoxFrom). with_boxes (box_history c path) (slice_index_or (path_order c.survey.fields) (length path) 0) bs) same
    where
      same : boxes_after c (path ++ b ∷ []) (fold (boxes_after c (path ++ b ∷ [])) (first_boxes c path) (treated_codes c path))
          (slice_index_or (path_order c.survey.fields) (length path) 0) ≡ boxes_along c (path ++ b ∷ [])
      same =
          ap (λ (bs : List BoxFrom). boxes_after c (path ++ b ∷ []) bs (slice_index_or (path_order c.survey.fields) (length path) 0))
          (fold-same (first_boxes c path) (treated_codes c path) (treated-within c path b short))
          ∙ sym (child-boxes c path b short enough)
