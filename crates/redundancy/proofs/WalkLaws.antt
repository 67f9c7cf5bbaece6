use Rattle.std.proofs.Common.{◌≡◌, ◌==◌, inl, inr, ℕ, zero, suc, ◌+◌, ◌<◌, ◌≤◌, Bool, true, false, if◌then◌else◌, nat_lt, List, [], ◌∷◌, ◌++◌, Option, Some}
use Rattle.std.proofs.Common.{None, Result, Ok, Err, length, slice_index_or, append_assoc, append-nil, length-append, refl, sym, ap, ◌∙◌, subst, arith}
use Rattle.std.specs.List.{fold}
use Rattle.std.proofs.Math.Seq.{get_or-append_seam}
use Rattle.std.proofs.lemmas.Bool.Decides.{Decides-eqb}
use Rattle.foundation.specs.Results.{◌>>=◌, fault_as}
use Rattle.edit_model.specs.Corrections.{path_order}
use Rattle.edit_model.specs.RowPoints.{code_in}
use Rattle.edit_model.specs.Rows.{value_of}
use Rattle.edit_model.proofs.OrderLaws.{order-length}
use Rattle.edit_line.specs.EditSets.{base_lines}
use Rattle.edit_line.specs.Reductions.{IsIn, reduce_derived}
use Rattle.edit_line.specs.Shapes.{Domain, code_fields, has_field, number_fields, shape_of, whole_sets}
use Rattle.edit_line.specs.declared.derived.Derived.{Derived}
use Rattle.edit_line.proofs.FieldLists.{there-has}
use Rattle.edit_line.proofs.Members.{in-right}
use Rattle.linear_elim.specs.Steps.{StepOverflow, pairs_count, step_result}
use Rattle.linear_elim.specs.Systems.{SystemOverflow, fold_result, overflow_at, system_of}
use Rattle.linear_elim.proofs.FoldLaws.{fold-joined}
use Rattle.categ_combine.specs.BoxLists.{sets_of}
use Rattle.categ_combine.specs.Covers.{cover_count, covered_from}
use Rattle.categ_combine.specs.FailingBoxes.{LineFault, failing_from}
use Rattle.categ_combine.specs.Fixing.{fixed_from}
use Rattle.categ_combine.specs.declared.box_from.BoxFrom.{BoxFrom}
use Rattle.bound_cert.specs.Paths.{changes, path_place}
use Rattle.edit_paths.specs.Cases.{SearchCase, IsCase}
use Rattle.edit_paths.specs.Histories.{History, steps_to, with_boxes, with_lines}
use Rattle.edit_paths.specs.PathHistories.{and_next, box_history, boxes_reached, line_history, lines_reached}
use Rattle.edit_paths.specs.Paths.{changed_numbers, number_count, treated_codes}
use Rattle.edit_paths.specs.States.{boxes_after, boxes_along, first_boxes, first_failing, first_whole, lines_along, or_empty, state_of, state_with_boxes}
use Rattle.edit_paths.specs.States.{state_with_system}
use Rattle.edit_paths.specs.Works.{pairs_next, work_of}
use Rattle.edit_paths.specs.declared.state.PathState.TheVariants.{ClosedBad}
use Rattle.edit_paths.proofs.CaseSystems.{system-over}
use Rattle.edit_paths.proofs.ChildLaws.{child-work}
use Rattle.edit_paths.proofs.FieldPlaces.{Placed, codes-placed}
use Rattle.edit_paths.proofs.LetterLaws.{number-place, order-shape}
use Rattle.redundancy.specs.Verdicts.{changing, verdict_by, verdict_from, verdict_of, within}
use Rattle.redundancy.specs.declared.verdict.Verdict.{Verdict}
use Rattle.redundancy.specs.declared.verdict.Verdict.TheVariants.{Dropped, Kept}
use Rattle.redundancy.specs.declared.verdict.Why.TheVariants.{Needed}
use Rattle.redundancy.specs.inner.Turns.{box_walk, closing_box, closing_line, code_walk, dropped_by, number_walk, or_overflow}
use Rattle.redundancy.proofs.WalkPaths.{codes-done, failing-closing, keeps-no_bad, length-changing, numbers-all, numbers-done, same-length, state_at}
use Rattle.redundancy.proofs.WalkPaths.{treated-changed}

-- The verdict of the walk along the path that changes every field is that of the walk field by field.

-- ---- lists of lines

-- the history of a fold with one step more
lines-more : (before : History) (lines : List Derived) (fs : List ℕ) (f : ℕ) (last next : List Derived) → fold_result lines fs ≡ Ok last → step_result last f
    ≡ Ok next → lines_reached before lines (fs ++ f ∷ []) ≡ with_lines (lines_reached before lines fs) next
lines-more before lines [] f last next e made =
    let same : lines ≡ last = cc in
    ap (λ r. and_next (with_lines before lines) r (λ more. lines_reached (with_lines before lines) more [])) (ap (λ (ls : List Derived). step_result ls f) same
    ∙ made)
lines-more before lines (g ∷ fs) f last next e made = by (step_result lines g) e (λ more h. lines-more (with_lines before lines) more fs f last next h made)
  where
    by : (r : Result (List Derived) StepOverflow) → (fault_as (overflow_at g) r >>= (λ next. fold_result next fs)) ≡ Ok last
        → ((more : List Derived) → fold_result more fs ≡ Ok last → lines_reached (with_lines before lines) more (fs ++ f ∷ [])
        ≡ with_lines (lines_reached (with_lines before lines) more fs) next)
        → and_next (with_lines before lines) r (λ more. lines_reached (with_lines before lines) more (fs ++ f ∷ []))
        ≡ with_lines (and_next (with_lines before lines) r (λ more. lines_reached (with_lines before lines) more fs)) next
    by (Ok more) h rest = rest more h
    by (Err fault) h rest = absurd (cc)

-- ---- lists of boxes

-- the lists of boxes that lead to the covers of the fields
abbrev cover_history : List Domain → History → List BoxFrom → List ℕ → History
cover_history shape history boxes [] = history
cover_history shape history boxes (f ∷ fields) = cover_history shape (with_boxes history f (covered_from shape boxes f)) (covered_from shape boxes f) fields

-- the covers of the fields
abbrev covers : List Domain → List BoxFrom → List ℕ → List BoxFrom
covers shape boxes fields = fold (λ bs f. covered_from shape bs f) boxes fields

covers-more : (shape : List Domain) (boxes : List BoxFrom) (fs : List ℕ) (f : ℕ) → covers shape boxes (fs ++ f ∷ [])
    ≡ covered_from shape (covers shape boxes fs) f
covers-more shape boxes [] f = refl
covers-more shape boxes (g ∷ fs) f = covers-more shape (covered_from shape boxes g) fs f

history-more : (shape : List Domain) (history : History) (boxes : List BoxFrom) (fs : List ℕ) (f : ℕ)
    → cover_history shape history boxes (fs ++ f ∷ []) ≡ with_boxes (cover_history shape history boxes fs) f (covered_from shape (covers shape boxes fs) f)
history-more shape history boxes [] f = refl
history-more shape history boxes (g ∷ fs) f = history-more shape (with_boxes history g (covered_from shape boxes g)) (covered_from shape boxes g) fs f

-- of fields that have their places from a number on, none has a place before
placed-late : (c : SearchCase) (f k : ℕ) (fields : List ℕ) → Placed c k fields → IsIn f fields → k ≤ path_place c.survey.fields f
placed-late c f k [] placed there = absurd there
placed-late c f k (g ∷ fields) placed (inl is) = omega (arith, ap (λ h. path_place c.survey.fields h) is, placed.0)
placed-late c f k (g ∷ fields) placed (inr there) = let late = placed-late c f (suc k) fields placed.1 there in omega (arith, late)

module _ (c : SearchCase) (path : List Bool) where
  after-cover : (boxes : List BoxFrom) (f : ℕ) → changes c.survey.fields path f ≡ true → boxes_after c path boxes f
      ≡ covered_from (shape_of c.survey.fields) boxes f
  after-cover boxes f e = ap (λ b. if b then covered_from (shape_of c.survey.fields) boxes f else fixed_from (shape_of c.survey.fields) boxes f
      (code_in (value_of c.row f))) e

  fold-covers : (boxes : List BoxFrom) (fields : List ℕ) → ((f : ℕ) → IsIn f fields → changes c.survey.fields path f ≡ true)
      → fold (boxes_after c path) boxes fields ≡ covers (shape_of c.survey.fields) boxes fields
  fold-covers boxes [] each = refl
  fold-covers boxes (f ∷ fields) each =
      ap (λ (bs : List BoxFrom). fold (boxes_after c path) bs fields) (after-cover boxes f (each f (inl refl)))
      ∙ fold-covers (covered_from (shape_of c.survey.fields) boxes f) fields (λ g at. each g (inr at))

  history-covers : (history : History) (boxes : List BoxFrom) (fields : List ℕ) → ((f : ℕ) → IsIn f fields → changes c.survey.fields path f ≡ true)
      → boxes_reached c path history boxes fields ≡ cover_history (shape_of c.survey.fields) history boxes fields
  history-covers history boxes [] each = refl
  history-covers history boxes (f ∷ fields) each =
      ap (λ (bs : List BoxFrom). boxes_reached c path (with_boxes history f bs) bs fields) (after-cover boxes f (each f (inl refl)))
      ∙ history-covers (with_boxes history f (covered_from (shape_of c.survey.fields) boxes f)) (covered_from (shape_of c.survey.fields) boxes f) fields
      (λ g at. each g (inr at))

module _ (c : SearchCase) (is : IsCase c) (budget : ℕ) where
  abbrev shape : List Domain
  shape = (shape_of c.survey.fields)

  abbrev numbers : List ℕ
  numbers = number_fields (shape_of c.survey.fields)

  abbrev start : List Derived
  start = reduce_derived (base_lines c.edits)

  -- the verdict after an open path
  abbrev open_from : ℕ → ℕ → ℕ → Verdict
  open_from spent n zero = Kept Needed
  open_from spent n (suc left) = verdict_from c budget spent (suc n) left

  opened : (spent n left : ℕ) → verdict_from c budget spent n left ≡ within budget (spent + work_of c (changing n))
      (verdict_by c (changing n) (state_of c (changing n)) (open_from (spent + work_of c (changing n)) n left))
  opened spent n zero = refl
  opened spent n (suc left) = refl

  system-first : (n : ℕ) (done fields : List ℕ) → numbers ≡ done ++ fields → length done ≡ n → system_of c.edits (changed_numbers c (changing n))
      ≡ fold_result start done
  system-first n done fields split size = ap (λ (fs : List ℕ). fold_result start fs) (numbers-done c n done fields split size)

  -- the state of a path by its system
  state-by : (n : ℕ) (r : Result (List Derived) SystemOverflow) → system_of c.edits (changed_numbers c (changing n)) ≡ r → state_of c (changing n)
      ≡ state_with_system c (changing n) r
  state-by n r made = ap (λ b. if b then ClosedBad else state_with_system c (changing n) (system_of c.edits (changed_numbers c (changing n))))
      (keeps-no_bad c n) ∙ ap (λ s. state_with_system c (changing n) s) made

  -- the field of the next letter
  next-field : (n : ℕ) (done fields : List ℕ) (f : ℕ) → path_order c.survey.fields ≡ done ++ f ∷ fields → length done ≡ n
      → slice_index_or (path_order c.survey.fields) (length (changing n)) 0 ≡ f
  next-field n done fields f split size = ap (λ m. slice_index_or (path_order c.survey.fields) m 0) (length-changing n ∙ sym size)
      ∙ ap (λ (fs : List ℕ). slice_index_or fs (length done) 0) split ∙ get_or-append_seam done f fields 0

  work-next : (n : ℕ) (done fields : List ℕ) (f : ℕ) → path_order c.survey.fields ≡ done ++ f ∷ fields → length done ≡ n → work_of c (changing (suc n))
      ≡ 1 + pairs_next c (changing n) f
  work-next n done fields f split size =
      child-work c (changing n) true (omega (
        arith,
        length-changing n,
        size,
        ap (λ (fs : List ℕ). length fs) split,
        length-append done (f ∷ fields),
        order-length c.survey.fields,
      ))
      ∙ ap (λ g. 1 + pairs_next c (changing n) g) (next-field n done fields f split size)

  drop-line : (n : ℕ) (history : History) (o : Option ℕ) (next : Verdict) → line_history c (changing n) ≡ history
      → verdict_by c (changing n) (state_at c n 0 o) next ≡ dropped_by history o next
  drop-line n history None next same = refl
  drop-line n history (Some k) next same = ap (λ m. Dropped (steps_to (line_history c (changing n)) m)) (omega arith)
      ∙ ap (λ (h : History). Dropped (steps_to h k)) same

  drop-box : (n : ℕ) (history : History) (o : Option ℕ) (next : Verdict) → box_history c (changing n) ≡ history → verdict_by c (changing n) (first_whole o) next
      ≡ dropped_by history o next
  drop-box n history None next same = refl
  drop-box n history (Some k) next same = ap (λ (h : History). Dropped (steps_to h k)) same

  -- ---- the categorical fields

  module _ (lines : List Derived) (made : fold_result start numbers ≡ Ok lines) (boxes : List BoxFrom) (told : failing_from 0 lines c.row [] ≡ Ok boxes) where
    abbrev history : History
    history = with_boxes (lines_reached [] start numbers) 0 boxes

    module _ (n : ℕ) (done fields : List ℕ) (split : code_fields (shape_of c.survey.fields) ≡ done ++ fields) (size : number_count c + length done ≡ n) where
      system-all : system_of c.edits (changed_numbers c (changing n)) ≡ Ok lines
      system-all = ap (λ (fs : List ℕ). fold_result start fs) (numbers-all c n (omega (arith, size))) ∙ made

      boxes-first : first_boxes c (changing n) ≡ boxes
      boxes-first = ap (λ r. or_empty (failing_from 0 (or_empty r) c.row [])) system-all ∙ ap (λ r. or_empty r) told

      covers-along : boxes_along c (changing n) ≡ covers (shape_of c.survey.fields) boxes done
      covers-along =
          fold-covers c (changing n) (first_boxes c (changing n)) (treated_codes c (changing n)) (treated-changed c n)
          ∙ ap (λ (bs : List BoxFrom). covers (shape_of c.survey.fields) bs (treated_codes c (changing n))) boxes-first
          ∙ ap (λ (fs : List ℕ). covers (shape_of c.survey.fields) boxes fs) (codes-done c n done fields split size)

      history-along : box_history c (changing n) ≡ cover_history (shape_of c.survey.fields) history boxes done
      history-along =
          history-covers c (changing n) (with_boxes (line_history c (changing n)) 0 (first_boxes c (changing n))) (first_boxes c (changing n))
          (treated_codes c (changing n)) (treated-changed c n)
          ∙ ap (λ (bs : List BoxFrom). cover_history (shape_of c.survey.fields) (with_boxes (line_history c (changing n)) 0 bs) bs
          (treated_codes c (changing n))) boxes-first
          ∙ ap (λ (fs : List ℕ). cover_history (shape_of c.survey.fields) (with_boxes (lines_reached [] start fs) 0 boxes) boxes (treated_codes c (changing n)))
          (numbers-all c n (omega (arith, size)))
          ∙ ap (λ (fs : List ℕ). cover_history (shape_of c.survey.fields) history boxes fs) (codes-done c n done fields split size)

      state-boxes : number_count c < n → state_of c (changing n)
          ≡ first_whole (closing_box (whole_sets (shape_of c.survey.fields)) (covers (shape_of c.survey.fields) boxes done))
      state-boxes past =
          state-by n (Ok lines) system-all
          ∙ ap (λ b. if b then first_failing c (changing n) 0 lines else state_with_boxes c (changing n) lines (failing_from 0 lines c.row [])) low
          ∙ ap (λ r. state_with_boxes c (changing n) lines r) told
          ∙ ap (λ b. if b then first_failing c (changing n) 0 lines else first_whole (closing_box (whole_sets (shape_of c.survey.fields))
          (fold (boxes_after c (changing n)) boxes (treated_codes c (changing n))))) other
          ∙ ap (λ (bs : List BoxFrom). first_whole (closing_box (whole_sets (shape_of c.survey.fields)) bs))
          (fold-covers c (changing n) boxes (treated_codes c (changing n)) (treated-changed c n)
          ∙ ap (λ (fs : List ℕ). covers (shape_of c.survey.fields) boxes fs) (codes-done c n done fields split size))
        where
          low : nat_lt (length (changing n)) (number_count c) ≡ false
          low = let h : number_count c < length (changing n) = omega (arith, past, length-changing n) in grind (arith, h)

          other : (length (changing n) == number_count c) ≡ false
          other = at (length (changing n) == number_count c) refl
            where
              at : (b : Bool) → (length (changing n) == number_count c) ≡ b → b ≡ false
              at true e = absurd (omega (arith, past, length-changing n, (Decides-eqb (length (changing n)) (number_count c)).0 e))
              at false e = refl

    codes-walk : (fields done : List ℕ) (n spent : ℕ) → code_fields (shape_of c.survey.fields) ≡ done ++ fields → number_count c + length done ≡ n
        → open_from spent n (length fields) ≡ code_walk (shape_of c.survey.fields) budget spent (cover_history (shape_of c.survey.fields) history boxes done)
        (covers (shape_of c.survey.fields) boxes done) fields
    codes-walk [] done n spent split size = refl
    codes-walk (f ∷ fields) done n spent split size =
        opened spent (suc n) (length fields)
        ∙ ap (λ w. within budget (spent + w) (verdict_by c (changing (suc n)) (state_of c (changing (suc n))) (open_from (spent + w) (suc n) (length fields))))
        work
        ∙ ap (λ v. within budget more v) (
        ap (λ s. verdict_by c (changing (suc n)) s (open_from more (suc n) (length fields)))
        (state-boxes (suc n) (done ++ f ∷ []) fields split_next size_next (omega (arith, size)))
        ∙ drop-box (suc n) (cover_history (shape_of c.survey.fields) history boxes (done ++ f ∷ []))
        (closing_box (whole_sets (shape_of c.survey.fields)) (covers (shape_of c.survey.fields) boxes (done ++ f ∷ [])))
        (open_from more (suc n) (length fields)) (history-along (suc n) (done ++ f ∷ []) fields split_next size_next)
        ∙ ap (λ v. dropped_by (cover_history (shape_of c.survey.fields) history boxes (done ++ f ∷ []))
        (closing_box (whole_sets (shape_of c.survey.fields)) (covers (shape_of c.survey.fields) boxes (done ++ f ∷ []))) v)
        (codes-walk fields (done ++ f ∷ []) (suc n) more split_next size_next)
        ∙ ap (λ (bs : List BoxFrom). dropped_by (cover_history (shape_of c.survey.fields) history boxes (done ++ f ∷ []))
        (closing_box (whole_sets (shape_of c.survey.fields)) bs) (code_walk (shape_of c.survey.fields) budget more
        (cover_history (shape_of c.survey.fields) history boxes (done ++ f ∷ [])) bs fields)) (covers-more (shape_of c.survey.fields) boxes done f)
        ∙ ap (λ (h : History). dropped_by h (closing_box (whole_sets (shape_of c.survey.fields)) next)
        (code_walk (shape_of c.survey.fields) budget more h next fields)) (history-more (shape_of c.survey.fields) history boxes done f)
        )
      where
        more : ℕ
        more = spent + (1 + cover_count (shape_of c.survey.fields) (sets_of (covers (shape_of c.survey.fields) boxes done)) f)

        next : List BoxFrom
        next = covered_from (shape_of c.survey.fields) (covers (shape_of c.survey.fields) boxes done) f

        split_next : code_fields (shape_of c.survey.fields) ≡ (done ++ f ∷ []) ++ fields
        split_next = split ∙ sym (append_assoc done (f ∷ []) fields)

        size_next : number_count c + length (done ++ f ∷ []) ≡ suc n
        size_next = omega (arith, size, length-append done (f ∷ []))

        not_number : has_field numbers f ≡ false
        not_number = at (has_field numbers f) refl
          where
            at : (b : Bool) → has_field numbers f ≡ b → b ≡ false
            at true e =
                let late = placed-late c f (number_count c) (code_fields (shape_of c.survey.fields)) (codes-placed c)
                (subst (λ (fs : List ℕ). IsIn f fs) (sym split) (in-right f done (f ∷ fields) (inl refl))) in
                absurd (omega (arith, late, number-place c f e))
            at false e = refl

        work : work_of c (changing (suc n)) ≡ 1 + cover_count (shape_of c.survey.fields) (sets_of (covers (shape_of c.survey.fields) boxes done)) f
        work =
            work-next n (numbers ++ done) fields f (order-shape c.survey.fields ∙ ap (λ (fs : List ℕ). numbers ++ fs) split
            ∙ sym (append_assoc numbers done (f ∷ fields))) (length-append numbers done ∙ size)
            ∙ ap (λ b. 1 + (if b then pairs_count (lines_along c (changing n)) f else cover_count (shape_of c.survey.fields)
            (sets_of (boxes_along c (changing n))) f)) not_number
            ∙ ap (λ (bs : List BoxFrom). 1 + cover_count (shape_of c.survey.fields) (sets_of bs) f) (covers-along n done (f ∷ fields) split size)

  -- ---- the numerical fields

  state-numbers : (n : ℕ) (lines : List Derived) → system_of c.edits (changed_numbers c (changing n)) ≡ Ok lines → n < number_count c → state_of c (changing n)
      ≡ state_at c n 0 (closing_line (whole_sets (shape_of c.survey.fields)) lines)
  state-numbers n lines made below =
      state-by n (Ok lines) made ∙ ap (λ b. if b then first_failing c (changing n) 0 lines else state_with_boxes c (changing n) lines
      (failing_from 0 lines c.row [])) low
      ∙ failing-closing c n 0 lines (system-over c is (changed_numbers c (changing n)) lines made)
    where
      low : nat_lt (length (changing n)) (number_count c) ≡ true
      low = let h : length (changing n) < number_count c = omega (arith, below, length-changing n) in grind (arith, h)

  -- the path that changes the numerical fields
  at-boxes : (lines : List Derived) (made : fold_result start numbers ≡ Ok lines) (n spent : ℕ) → number_count c ≡ n → (r : Result (List BoxFrom) LineFault)
      → failing_from 0 lines c.row [] ≡ r
      → verdict_by c (changing n) (state_of c (changing n)) (open_from spent n (length (code_fields (shape_of c.survey.fields))))
      ≡ box_walk (shape_of c.survey.fields) budget spent (lines_reached [] start numbers) lines r
  at-boxes lines made n spent size r told = by r told
    where
      system : system_of c.edits (changed_numbers c (changing n)) ≡ Ok lines
      system = ap (λ (fs : List ℕ). fold_result start fs) (numbers-all c n (omega (arith, size))) ∙ made

      low : nat_lt (length (changing n)) (number_count c) ≡ false
      low = let h : number_count c ≤ length (changing n) = omega (arith, size, length-changing n) in grind (arith, h)

      all : (length (changing n) == number_count c) ≡ true
      all = (Decides-eqb (length (changing n)) (number_count c)).1 (length-changing n ∙ sym size)

      state : (r : Result (List BoxFrom) LineFault) → failing_from 0 lines c.row [] ≡ r → state_of c (changing n) ≡ state_with_boxes c (changing n) lines r
      state r told =
          state-by n (Ok lines) system ∙ ap (λ b. if b then first_failing c (changing n) 0 lines else state_with_boxes c (changing n) lines
          (failing_from 0 lines c.row [])) low
          ∙ ap (λ r. state_with_boxes c (changing n) lines r) told

      by : (r : Result (List BoxFrom) LineFault) → failing_from 0 lines c.row [] ≡ r
          → verdict_by c (changing n) (state_of c (changing n)) (open_from spent n (length (code_fields (shape_of c.survey.fields))))
          ≡ box_walk (shape_of c.survey.fields) budget spent (lines_reached [] start numbers) lines r
      by (Err fault) told = ap (λ s. verdict_by c (changing n) s (open_from spent n (length (code_fields (shape_of c.survey.fields))))) (state (Err fault) told)
      by (Ok boxes) told =
          ap (λ s. verdict_by c (changing n) s (open_from spent n (length (code_fields (shape_of c.survey.fields)))))
          (state (Ok boxes) told ∙ ap (λ b. if b then first_failing c (changing n) 0 lines else first_whole
          (closing_box (whole_sets (shape_of c.survey.fields)) (fold (boxes_after c (changing n)) boxes (treated_codes c (changing n))))) all
          ∙ failing-closing c n 0 lines (system-over c is (changed_numbers c (changing n)) lines system))
          ∙ drop-line n (lines_reached [] start numbers) (closing_line (whole_sets (shape_of c.survey.fields)) lines)
          (open_from spent n (length (code_fields (shape_of c.survey.fields)))) (ap (λ (fs : List ℕ). lines_reached [] start fs)
          (numbers-all c n (omega (arith, size))))
          ∙ ap (λ v. dropped_by (lines_reached [] start numbers) (closing_line (whole_sets (shape_of c.survey.fields)) lines) v)
          (codes-walk lines made boxes told (code_fields (shape_of c.survey.fields)) [] n spent refl (omega (arith, size)))

  numbers-walk : (fields done : List ℕ) (n spent : ℕ) (lines : List Derived) → numbers ≡ done ++ fields → length done ≡ n → fold_result start done ≡ Ok lines
      → verdict_by c (changing n) (state_of c (changing n)) (open_from spent n (length (fields ++ code_fields (shape_of c.survey.fields))))
      ≡ number_walk (shape_of c.survey.fields) c.row budget spent (lines_reached [] start done) lines fields
  numbers-walk [] done n spent lines split size made =
      let same : numbers ≡ done = split ∙ append-nil done in
      at-boxes lines (ap (λ (fs : List ℕ). fold_result start fs) same ∙ made) n spent (ap (λ (fs : List ℕ). length fs) same ∙ size)
      (failing_from 0 lines c.row []) refl
      ∙ ap (λ (fs : List ℕ). box_walk (shape_of c.survey.fields) budget spent (lines_reached [] start fs) lines (failing_from 0 lines c.row [])) same
  numbers-walk (f ∷ fields) done n spent lines split size made =
      ap (λ s. verdict_by c (changing n) s (open_from spent n (suc (length (fields ++ code_fields (shape_of c.survey.fields))))))
      (state-numbers n lines system below)
      ∙ drop-line n (lines_reached [] start done) (closing_line (whole_sets (shape_of c.survey.fields)) lines)
      (open_from spent n (suc (length (fields ++ code_fields (shape_of c.survey.fields)))))
      (ap (λ (fs : List ℕ). lines_reached [] start fs) (numbers-done c n done (f ∷ fields) split size))
      ∙ ap (λ v. dropped_by (lines_reached [] start done) (closing_line (whole_sets (shape_of c.survey.fields)) lines) v) (
      opened spent (suc n) (length (fields ++ code_fields (shape_of c.survey.fields)))
      ∙ ap (λ w. within budget (spent + w) (verdict_by c (changing (suc n)) (state_of c (changing (suc n)))
      (open_from (spent + w) (suc n) (length (fields ++ code_fields (shape_of c.survey.fields)))))) work
      ∙ ap (λ v. within budget more v)
      (by (step_result lines f) refl (λ next made_next more_made. numbers-walk fields (done ++ f ∷ []) (suc n) more next split_next
      (same-length done f n size) more_made))
      )
    where
      more : ℕ
      more = spent + (1 + pairs_count lines f)

      split_next : numbers ≡ (done ++ f ∷ []) ++ fields
      split_next = split ∙ sym (append_assoc done (f ∷ []) fields)

      system : system_of c.edits (changed_numbers c (changing n)) ≡ Ok lines
      system = system-first n done (f ∷ fields) split size ∙ made

      below : n < number_count c
      below = omega (arith, size, ap (λ (fs : List ℕ). length fs) split, length-append done (f ∷ fields))

      there : has_field numbers f ≡ true
      there = there-has f numbers (subst (λ (fs : List ℕ). IsIn f fs) (sym split) (in-right f done (f ∷ fields) (inl refl)))

      work : work_of c (changing (suc n)) ≡ 1 + pairs_count lines f
      work =
          work-next n done (fields ++ code_fields (shape_of c.survey.fields)) f (order-shape c.survey.fields
          ∙ ap (λ (fs : List ℕ). fs ++ code_fields (shape_of c.survey.fields)) split ∙ append_assoc done (f ∷ fields)
          (code_fields (shape_of c.survey.fields))) size
          ∙ ap (λ b. 1 + (if b then pairs_count (lines_along c (changing n)) f else cover_count (shape_of c.survey.fields)
          (sets_of (boxes_along c (changing n))) f)) there
          ∙ ap (λ r. 1 + pairs_count (or_empty r) f) system

      stepped : fold_result start (done ++ f ∷ []) ≡ (fault_as (overflow_at f) (step_result lines f) >>= (λ next. Ok next))
      stepped = fold-joined start done (f ∷ []) lines made

      by : (r : Result (List Derived) StepOverflow) → step_result lines f ≡ r
          → ((next : List Derived) → step_result lines f ≡ Ok next → fold_result start (done ++ f ∷ []) ≡ Ok next
          → verdict_by c (changing (suc n)) (state_of c (changing (suc n))) (open_from more (suc n) (length (fields ++ code_fields (shape_of c.survey.fields))))
          ≡ number_walk (shape_of c.survey.fields) c.row budget more (lines_reached [] start (done ++ f ∷ [])) next fields)
          → verdict_by c (changing (suc n)) (state_of c (changing (suc n))) (open_from more (suc n) (length (fields ++ code_fields (shape_of c.survey.fields))))
          ≡ or_overflow r (λ next. number_walk (shape_of c.survey.fields) c.row budget more (with_lines (lines_reached [] start done) next) next fields)
      by (Ok next) is_next rest =
          rest next is_next (stepped ∙ ap (λ r. (fault_as (overflow_at f) r >>= (λ next. Ok next))) is_next)
          ∙ ap (λ (h : History). number_walk (shape_of c.survey.fields) c.row budget more h next fields)
          (lines-more [] start done f lines next made is_next)
      by (Err o) is_next rest =
          ap (λ s. verdict_by c (changing (suc n)) s (open_from more (suc n) (length (fields ++ code_fields (shape_of c.survey.fields)))))
          (state-by (suc n) (Err (record { field = f; step = o })) (system-first (suc n) (done ++ f ∷ []) fields split_next (same-length done f n size)
          ∙ stepped ∙ ap (λ r. (fault_as (overflow_at f) r >>= (λ next. Ok next))) is_next))

  -- the verdict is that of the walk field by field
  pub verdict-walk : verdict_of c budget ≡ within budget 1 (number_walk (shape_of c.survey.fields) c.row budget 1 (with_lines [] start) start numbers)
  verdict-walk =
      ap (λ n. verdict_from c budget 0 0 n) (sym (order-length c.survey.fields) ∙ ap (λ (fs : List ℕ). length fs) (order-shape c.survey.fields))
      ∙ opened 0 0 (length (numbers ++ code_fields (shape_of c.survey.fields))) ∙ ap (λ v. within budget 1 v) (numbers-walk numbers [] 0 1 start refl refl refl)
