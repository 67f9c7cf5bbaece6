use Rattle.std.proofs.Common.{◌≡◌, ◌&&◌, ◌||◌, ◌==◌, ℕ, zero, suc, ◌+◌, ◌-◌, ◌<◌, ◌≤◌, Bool, true, false, not, if◌then◌else◌, nat_lt, List, [], ◌∷◌}
use Rattle.std.proofs.Common.{◌++◌, Option, Some, None, Result, Ok, Err, IfOk, IfNone, IfSome, length, slice_index_or, refl, sym, ap, ◌∙◌, subst}
use Rattle.std.proofs.Common.{arith}
use Rattle.std.specs.List.{fold, list_any}
use Rattle.std.proofs.lemmas.Bool.Decides.{Decides-eqb}
use Rattle.std.proofs.lemmas.Bool.{le-ltb}
use Rattle.fraction128.specs.declared.fraction.Fraction.{Fraction}
use Rattle.edit_model.specs.Corrections.{path_order}
use Rattle.edit_model.specs.RowPoints.{code_in}
use Rattle.edit_model.specs.Rows.{is_bad, value_of}
use Rattle.edit_model.specs.Trials.{IsCodeValue}
use Rattle.edit_model.specs.declared.value.Value.{Value}
use Rattle.edit_model.specs.declared.value.Value.TheVariants.{Bad, Code, Number}
use Rattle.edit_model.proofs.OrderLaws.{order-length}
use Rattle.edit_model.proofs.RowLaws.{code-at}
use Rattle.edit_line.specs.CodeFields.{TakesCodes}
use Rattle.edit_line.specs.Shapes.{code_fields, has_field, number_fields, shape_of}
use Rattle.edit_line.specs.declared.derived.Derived.{Derived}
use Rattle.edit_line.proofs.FieldLists.{there-has}
use Rattle.edit_line.proofs.PointCodes.{takes-codes}
use Rattle.edit_line.proofs.ShapeLaws.{code_fields-same}
use Rattle.linear_elim.specs.Steps.{pairs_count}
use Rattle.linear_elim.specs.Systems.{SystemOverflow, system_of}
use Rattle.linear_elim.proofs.PointLaws.{number-no_code}
use Rattle.categ_combine.specs.BoxLists.{AreBoxesOver, sets_of}
use Rattle.categ_combine.specs.Covers.{cover_count, covered_from}
use Rattle.categ_combine.specs.FailingBoxes.{LineFault, failing_from}
use Rattle.categ_combine.specs.Fixing.{fixed_from}
use Rattle.categ_combine.specs.declared.box_from.BoxFrom.{BoxFrom}
use Rattle.categ_combine.proofs.OverLaws.{over-failing}
use Rattle.bound_cert.specs.Paths.{changes, keeps_bad}
use Rattle.bound_cert.proofs.Letters.{kept-any, kept_in}
use Rattle.edit_paths.specs.Cases.{SearchCase, IsCase}
use Rattle.edit_model.specs.FieldSets.{set_of}
use Rattle.edit_paths.specs.Paths.{before_last, changed_numbers, field_count, last_letter, number_count, treated_codes}
use Rattle.edit_paths.specs.States.{IsOpen, boxes_after, boxes_along, first_boxes, first_failing, lines_along, or_empty, state_of, state_with_boxes}
use Rattle.edit_paths.specs.States.{state_with_system, whole_state}
use Rattle.edit_paths.specs.Works.{pairs_next, work_of}
use Rattle.edit_paths.specs.declared.state.PathState.{PathState}
use Rattle.edit_paths.specs.declared.state.PathState.TheVariants.{ClosedBad, Open}
use Rattle.edit_paths.proofs.ChildLaws.{changes-next, child-boxes, child-numbers-same, child-work}
use Rattle.edit_paths.proofs.FieldPlaces.{fields-placed}
use Rattle.edit_paths.proofs.KeptLines.{all-over}
use Rattle.edit_paths.proofs.LetterLaws.{count-kinds, longer, order-shape}
use Rattle.edit_paths.proofs.PathBoxes.{along-over}
use Rattle.path_walk.specs.Bases.{IsBasis, has_basis}
use Rattle.path_walk.specs.KeptFields.{KeepsChanged}
use Rattle.path_walk.specs.Looks.{IsLook, TellsLook}
use Rattle.path_walk.specs.declared.looks.Basis.{Basis}
use Rattle.path_walk.specs.declared.looks.Basis.TheVariants.{Boxes, Lines}
use Rattle.path_walk.specs.declared.looks.Look.{Look}
use Rattle.path_walk.specs.inner.Tries.{AreBoxes, IsChanged, IsKept}
use Rattle.path_walk.proofs.LastLetters.{split-last}
use Rattle.path_walk.proofs.NumberPathLaws.{in-index}
use Rattle.path_walk.proofs.ProblemLaws.{placed-at}

-- Paths that say something of categorical fields, from the open path before.

-- ---- what an open path that says something of all numerical fields has

record HasBoxes (c : SearchCase) (path : List Bool) (lines : List Derived) (boxes : List BoxFrom) : Type 0 where
  held : keeps_bad c.survey.fields c.row path ≡ false
  made : system_of c.edits (changed_numbers c path) ≡ Ok lines
  told : failing_from 0 lines c.row [] ≡ Ok boxes

module _ (c : SearchCase) (path : List Bool) (enough : number_count c ≤ length path) where
  late : nat_lt (length path) (number_count c) ≡ false
  late = le-ltb (length path) (number_count c) enough

  open-boxes : IsOpen c path → (lines : List Derived) × (boxes : List BoxFrom) × HasBoxes c path lines boxes
  open-boxes is_open = by_bad (keeps_bad c.survey.fields c.row path) refl is_open
    where
      by_told : (lines : List Derived) → keeps_bad c.survey.fields c.row path ≡ false → system_of c.edits (changed_numbers c path) ≡ Ok lines
          → (r : Result (List BoxFrom) LineFault) → failing_from 0 lines c.row [] ≡ r → state_with_boxes c path lines r ≡ Open
          → (lines : List Derived) × (boxes : List BoxFrom) × HasBoxes c path lines boxes
      by_told lines held made (Ok boxes) told h = (lines, boxes, record { held = held; made = made; told = told })
      by_told lines held made (Err fault) told h = absurd (cc)

      by_system : keeps_bad c.survey.fields c.row path ≡ false → (r : Result (List Derived) SystemOverflow)
          → system_of c.edits (changed_numbers c path) ≡ r → state_with_system c path r ≡ Open
          → (lines : List Derived) × (boxes : List BoxFrom) × HasBoxes c path lines boxes
      by_system held (Ok lines) made h =
          by_told lines held made (failing_from 0 lines c.row []) refl
          (sym (ap (λ b. if b then first_failing c path 0 lines else state_with_boxes c path lines (failing_from 0 lines c.row [])) late) ∙ h)
      by_system held (Err o) made h = absurd (cc)

      by_bad : (b : Bool) → keeps_bad c.survey.fields c.row path ≡ b
          → (if b then ClosedBad else state_with_system c path (system_of c.edits (changed_numbers c path))) ≡ Open
          → (lines : List Derived) × (boxes : List BoxFrom) × HasBoxes c path lines boxes
      by_bad true held h = absurd (cc)
      by_bad false held h = by_system held (system_of c.edits (changed_numbers c path)) refl h

  module _ (lines : List Derived) (boxes : List BoxFrom) (has : HasBoxes c path lines boxes) where
    first-are : first_boxes c path ≡ boxes
    first-are = ap (λ r. or_empty (failing_from 0 (or_empty r) c.row [])) has.made ∙ ap (λ r. or_empty r) has.told

    along-are : boxes_along c path ≡ fold (boxes_after c path) boxes (treated_codes c path)
    along-are = ap (λ (bs : List BoxFrom). fold (boxes_after c path) bs (treated_codes c path)) first-are

    over-shape : (is : IsCase c) → AreBoxesOver (shape_of c.survey.fields) (boxes_along c path)
    over-shape is =
        subst (λ (bs : List BoxFrom). AreBoxesOver (shape_of c.survey.fields) bs) (sym along-are)
        (along-over c path boxes (treated_codes c path) (over-failing (shape_of c.survey.fields) 0 lines c.row [] boxes
        (all-over c is path has.held lines has.made) (λ k b below. absurd (omega arith)) has.told))

-- ---- a path with one categorical field more

second-of : (xs ys : List ℕ) (i : ℕ) → length xs ≤ i → slice_index_or (xs ++ ys) i 0 ≡ slice_index_or ys (i - length xs) 0
second-of [] ys i past = ap (λ n. slice_index_or ys n 0) (omega arith)
second-of (x ∷ xs) ys zero past = absurd (omega arith)
second-of (x ∷ xs) ys (suc i) past = second-of xs ys i (omega arith) ∙ ap (λ n. slice_index_or ys n 0) (omega arith)

-- whether a kept field passes a test, with one letter more
any-more : (test : ℕ → Bool) (order : List ℕ) (path : List Bool) (b : Bool) → length path < length order
    → list_any test (kept_in order (path ++ b ∷ [])) ≡ (list_any test (kept_in order path) || (not b && test (slice_index_or order (length path) 0)))
any-more test [] path b short = absurd (omega arith)
any-more test (f ∷ order) [] true short = nothing order
  where
    nothing : (fs : List ℕ) → list_any test (kept_in fs []) ≡ false
    nothing [] = refl
    nothing (g ∷ fs) = refl
any-more test (f ∷ order) [] false short = ap (λ x. test f || x) (nothing order) ∙ or_false (test f)
  where
    nothing : (fs : List ℕ) → list_any test (kept_in fs []) ≡ false
    nothing [] = refl
    nothing (g ∷ fs) = refl

    or_false : (t : Bool) → (t || false) ≡ t
    or_false true = refl
    or_false false = refl
any-more test (f ∷ order) (true ∷ path) b short = any-more test order path b (omega arith)
any-more test (f ∷ order) (false ∷ path) b short =
    ap (λ x. test f || x) (any-more test order path b (omega arith))
    ∙ or_assoc (test f) (list_any test (kept_in order path)) (not b && test (slice_index_or order (length path) 0))
  where
    or_assoc : (x y z : Bool) → (x || (y || z)) ≡ ((x || y) || z)
    or_assoc true y z = refl
    or_assoc false y z = refl

module _ (c : SearchCase) (before : List Bool) (b : Bool) (enough : number_count c ≤ length before) (short : length before < field_count c)
    (is_open : IsOpen c before) where
  abbrev next_field : ℕ
  next_field = slice_index_or (path_order c.survey.fields) (length before) 0

  next-code : has_field (code_fields (shape_of c.survey.fields)) (slice_index_or (path_order c.survey.fields) (length before) 0) ≡ true
  next-code =
      ap (λ f. has_field (code_fields (shape_of c.survey.fields)) f)
      (ap (λ (fs : List ℕ). slice_index_or fs (length before) 0) (order-shape c.survey.fields)
      ∙ second-of (number_fields (shape_of c.survey.fields)) (code_fields (shape_of c.survey.fields)) (length before) enough)
      ∙ there-has (slice_index_or (code_fields (shape_of c.survey.fields)) (length before - number_count c) 0) (code_fields (shape_of c.survey.fields))
      (in-index (code_fields (shape_of c.survey.fields)) (length before - number_count c) 0 (omega (arith, enough, short, count-kinds c)))

  not-number : has_field (number_fields (shape_of c.survey.fields)) (slice_index_or (path_order c.survey.fields) (length before) 0) ≡ false
  not-number = by (has_field (number_fields (shape_of c.survey.fields)) next_field) refl
    where
      by : (t : Bool) → has_field (number_fields (shape_of c.survey.fields)) next_field ≡ t
          → has_field (number_fields (shape_of c.survey.fields)) next_field ≡ false
      by false e = e
      by true e = absurd (cc (sym next-code ∙ number-no_code next_field 0 (shape_of c.survey.fields) e))

  next-takes : IsCase c → TakesCodes (shape_of c.survey.fields) (slice_index_or (path_order c.survey.fields) (length before) 0)
  next-takes is = takes-codes c.survey.fields next_field is.fields next-code

  open-held : keeps_bad c.survey.fields c.row before ≡ false
  open-held = let (lines, boxes, has) = open-boxes c before enough is_open in has.held

  child-held : keeps_bad c.survey.fields c.row (before ++ b ∷ [])
      ≡ (not b && is_bad (value_of c.row (slice_index_or (path_order c.survey.fields) (length before) 0)))
  child-held =
      kept-any c.survey.fields (before ++ b ∷ []) (λ f. is_bad (value_of c.row f))
      ∙ any-more (λ f. is_bad (value_of c.row f)) (path_order c.survey.fields) before b (omega (arith, short, order-length c.survey.fields))
      ∙ ap (λ t. t || (not b && is_bad (value_of c.row next_field))) (sym (kept-any c.survey.fields before (λ f. is_bad (value_of c.row f))) ∙ open-held)

  changes-it : changes c.survey.fields (before ++ b ∷ []) next_field ≡ b
  changes-it =
      changes-next c before b short next_field (placed-at c 0 (length before) (path_order c.survey.fields) (fields-placed c)
      (omega (arith, short, order-length c.survey.fields)) ∙ omega arith)

  changed-boxes : b ≡ true → boxes_along c (before ++ b ∷ [])
      ≡ covered_from (shape_of c.survey.fields) (boxes_along c before) (slice_index_or (path_order c.survey.fields) (length before) 0)
  changed-boxes is =
      child-boxes c before b short enough
      ∙ ap (λ t. if t then covered_from (shape_of c.survey.fields) (boxes_along c before) next_field else fixed_from (shape_of c.survey.fields)
      (boxes_along c before) next_field (code_in (value_of c.row next_field))) (changes-it ∙ is)

  kept-boxes : b ≡ false
      → boxes_along c (before ++ b ∷ []) ≡ fixed_from (shape_of c.survey.fields) (boxes_along c before)
      (slice_index_or (path_order c.survey.fields) (length before) 0) (code_in (value_of c.row (slice_index_or (path_order c.survey.fields) (length before) 0)))
  kept-boxes is =
      child-boxes c before b short enough
      ∙ ap (λ t. if t then covered_from (shape_of c.survey.fields) (boxes_along c before) next_field else fixed_from (shape_of c.survey.fields)
      (boxes_along c before) next_field (code_in (value_of c.row next_field))) (changes-it ∙ is)

  covered-work : b ≡ true → work_of c (before ++ b ∷ [])
      ≡ 1 + cover_count (shape_of c.survey.fields) (sets_of (boxes_along c before)) (slice_index_or (path_order c.survey.fields) (length before) 0)
  covered-work is =
      child-work c before b short ∙ ap (λ t. if t then 1 + pairs_next c before next_field else 1) is
      ∙ ap (λ t. 1 + (if t then pairs_count (lines_along c before) next_field else cover_count (shape_of c.survey.fields) (sets_of (boxes_along c before))
      next_field)) not-number

  kept-work : b ≡ false → work_of c (before ++ b ∷ []) ≡ 1
  kept-work is = child-work c before b short ∙ ap (λ t. if t then 1 + pairs_next c before next_field else 1) is

  -- the first box of all codes closes it, where it keeps no field without a value
  child-state : keeps_bad c.survey.fields c.row (before ++ b ∷ []) ≡ false → state_of c (before ++ b ∷ []) ≡ whole_state c (boxes_along c (before ++ b ∷ []))
  child-state held =
      let (lines, boxes, has) = open-boxes c before enough is_open in
      let made : system_of c.edits (changed_numbers c (before ++ b ∷ []))
      ≡ Ok lines = ap (λ (fs : List ℕ). system_of c.edits fs) (child-numbers-same c before b short enough) ∙ has.made in
      let more : number_count c ≤ length (before ++ b ∷ []) = omega (arith, enough, longer before b) in
      ap (λ t. if t then ClosedBad else state_with_system c (before ++ b ∷ []) (system_of c.edits (changed_numbers c (before ++ b ∷ [])))) held
      ∙ ap (λ r. state_with_system c (before ++ b ∷ []) r) made
      ∙ ap (λ t. if t then first_failing c (before ++ b ∷ []) 0 lines else state_with_boxes c (before ++ b ∷ []) lines (failing_from 0 lines c.row []))
      (late c (before ++ b ∷ []) more)
      ∙ ap (λ r. state_with_boxes c (before ++ b ∷ []) lines r) has.told
      ∙ ap (λ t. if t then first_failing c (before ++ b ∷ []) 0 lines else whole_state c
      (fold (boxes_after c (before ++ b ∷ [])) boxes (treated_codes c (before ++ b ∷ [])))) longer_now
      ∙ ap (λ (bs : List BoxFrom). whole_state c bs) (sym
      (along-are c (before ++ b ∷ []) more lines boxes (record { held = held; made = made; told = has.told })))
    where
      longer_now : (length (before ++ b ∷ []) == number_count c) ≡ false
      longer_now = by (length (before ++ b ∷ []) == number_count c) refl
        where
          by : (t : Bool) → (length (before ++ b ∷ []) == number_count c) ≡ t → (length (before ++ b ∷ []) == number_count c) ≡ false
          by false e = e
          by true e = absurd (omega (arith, enough, longer before b, (Decides-eqb (length (before ++ b ∷ [])) (number_count c)).0 e))

  child-bad : keeps_bad c.survey.fields c.row (before ++ b ∷ []) ≡ true → state_of c (before ++ b ∷ []) ≡ ClosedBad
  child-bad bad = ap (λ t. if t then ClosedBad else state_with_system c (before ++ b ∷ []) (system_of c.edits (changed_numbers c (before ++ b ∷ [])))) bad

-- ---- the record's value at a field

-- a categorical field holds no number
no-number : (c : SearchCase) → IsCase c → (f : ℕ) (x : Fraction) → has_field (code_fields (shape_of c.survey.fields)) f ≡ true → value_of c.row f ≡ Number x → ⊥
no-number c is f x there own =
    subst (λ (v : Value). IsCodeValue v) own
    ((code-at c.survey.fields c.row f is.row (sym (ap (λ (fs : List ℕ). has_field fs f) (code_fields-same c.survey.fields)) ∙ there)).0
    (λ bad. absurd (cc (sym own ∙ bad))))

-- ---- a look into the path, from the boxes of the path before

boxes-basis : (c : SearchCase) (path : List Bool) (boxes : List BoxFrom) (basis : Basis) → number_count c ≤ length path → AreBoxes boxes basis
    → boxes ≡ boxes_along c path → IsBasis c path basis
boxes-basis c path boxes (Boxes own) enough are along = (enough, are ∙ along)
boxes-basis c path boxes (Lines own) enough are along = absurd are

module _ (c : SearchCase) (is : IsCase c) (letters : List Bool) (more : number_count c < length letters) (fit : length letters ≤ field_count c)
    (reached : IsOpen c (before_last letters)) (boxes : List BoxFrom) (boxes_are : boxes ≡ boxes_along c (before_last letters))
    (f : ℕ) (field_is : f ≡ slice_index_or (path_order c.survey.fields) (length letters - 1) 0) where
  abbrev before : List Bool
  before = before_last letters

  abbrev b : Bool
  b = last_letter letters

  split : letters ≡ before ++ b ∷ []
  split = split-last letters false (omega (arith, more))

  counted : length letters ≡ suc (length before)
  counted = ap (λ (p : List Bool). length p) split ∙ longer before b

  enough : number_count c ≤ length before
  enough = omega (arith, more, counted)

  short : length before < field_count c
  short = omega (arith, fit, counted)

  next_is : f ≡ slice_index_or (path_order c.survey.fields) (length before) 0
  next_is = field_is ∙ ap (λ (n : ℕ). slice_index_or (path_order c.survey.fields) n 0) (omega (arith, counted))

  pub codes-over : AreBoxesOver (shape_of c.survey.fields) boxes
  codes-over = let (lines, first, has) = open-boxes c before enough reached in subst (λ (bs : List BoxFrom). AreBoxesOver (shape_of c.survey.fields) bs)
      (sym boxes_are) (over-shape c before enough lines first has is)

  pub codes-takes : TakesCodes (shape_of c.survey.fields) f
  codes-takes = subst (λ (g : ℕ). TakesCodes (shape_of c.survey.fields) g) (sym next_is) (next-takes c before b enough short reached is)

  module _ (changed : last_letter letters ≡ true) where
    changed-count : work_of c letters ≡ 1 + cover_count (shape_of c.survey.fields) (sets_of boxes) f
    changed-count =
        ap (λ (p : List Bool). work_of c p) split ∙ covered-work c before b enough short reached changed
        ∙ ap (λ (bs : List BoxFrom). 1 + cover_count (shape_of c.survey.fields) (sets_of bs)
        (slice_index_or (path_order c.survey.fields) (length before) 0)) (sym boxes_are)
        ∙ ap (λ (g : ℕ). 1 + cover_count (shape_of c.survey.fields) (sets_of boxes) g) (sym next_is)

    changed-along : boxes_along c letters ≡ covered_from (shape_of c.survey.fields) boxes f
    changed-along =
        ap (λ (p : List Bool). boxes_along c p) split ∙ changed-boxes c before b enough short reached changed
        ∙ ap (λ (bs : List BoxFrom). covered_from (shape_of c.survey.fields) bs (slice_index_or (path_order c.survey.fields) (length before) 0)) (sym boxes_are)
        ∙ ap (λ (g : ℕ). covered_from (shape_of c.survey.fields) boxes g) (sym next_is)

    changed-state : state_of c letters ≡ whole_state c (boxes_along c letters)
    changed-state =
        ap (λ (p : List Bool). state_of c p) split
        ∙ child-state c before b enough short reached (child-held c before b enough short reached
        ∙ ap (λ (t : Bool). not t && is_bad (value_of c.row (slice_index_or (path_order c.survey.fields) (length before) 0))) changed)
        ∙ ap (λ (p : List Bool). whole_state c (boxes_along c p)) (sym split)

    is-look : (look : Look) → IsChanged c boxes f look → IsLook c letters look
    is-look look told = record {
      work = told.work ∙ sym changed-count;
      state = told.state ∙ ap (λ (bs : List BoxFrom). whole_state c bs) (sym changed-along) ∙ sym changed-state;
      basis = λ made. boxes-basis c letters (covered_from (shape_of c.survey.fields) boxes f) look.basis (omega (arith, more)) told.basis (sym changed-along);
    }

    pub changed-passed : {E : Type 0} (most : ℕ) (r : Result (Option Look) E)
        → IfOk r (λ told. IfNone told (most < 1 + cover_count (shape_of c.survey.fields) (sets_of boxes) f))
        → IfOk r (λ told. IfNone told (most < work_of c letters))
    changed-passed most (Ok None) h = subst (λ (n : ℕ). most < n) (sym changed-count) h
    changed-passed most (Ok (Some look)) h = tt
    changed-passed most (Err e) h = tt

    pub changed-look : {E : Type 0} (most : ℕ) (r : Result (Option Look) E)
        → IfOk r (λ told. IfSome told (λ look. IsChanged c boxes f look × (look.work ≤ most))) → IfOk r (TellsLook c letters most)
    changed-look most (Ok None) h = tt
    changed-look most (Ok (Some look)) h = (is-look look h.0, h.1)
    changed-look most (Err e) h = tt

  module _ (kept : last_letter letters ≡ false) where
    kept-along : boxes_along c letters ≡ fixed_from (shape_of c.survey.fields) boxes f (code_in (value_of c.row f))
    kept-along =
        ap (λ (p : List Bool). boxes_along c p) split ∙ kept-boxes c before b enough short reached kept
        ∙ ap (λ (bs : List BoxFrom). fixed_from (shape_of c.survey.fields) bs (slice_index_or (path_order c.survey.fields) (length before) 0)
        (code_in (value_of c.row (slice_index_or (path_order c.survey.fields) (length before) 0)))) (sym boxes_are)
        ∙ ap (λ (g : ℕ). fixed_from (shape_of c.survey.fields) boxes g (code_in (value_of c.row g))) (sym next_is)

    held-is : keeps_bad c.survey.fields c.row (before ++ b ∷ []) ≡ is_bad (value_of c.row f)
    held-is =
        child-held c before b enough short reached ∙ ap (λ (t : Bool). not t && is_bad
        (value_of c.row (slice_index_or (path_order c.survey.fields) (length before) 0))) kept
        ∙ ap (λ (g : ℕ). is_bad (value_of c.row g)) (sym next_is)

    counts-one : work_of c letters ≡ 1
    counts-one = ap (λ (p : List Bool). work_of c p) split ∙ kept-work c before b enough short reached kept

    pub kept-look : (most : ℕ) (look : Look) → 0 < most → look.work ≡ 1 → IsKept c boxes f (value_of c.row f) look → IsLook c letters look × (look.work ≤ most)
    kept-look most look some one told = (by (value_of c.row f) refl told, omega (arith, some, one))
      where
        by : (v : Value) → value_of c.row f ≡ v → IsKept c boxes f v look → IsLook c letters look
        by (Code k) own h =
            let along : fixed_from (shape_of c.survey.fields) boxes f k
            ≡ boxes_along c letters = sym (kept-along ∙ ap (λ (v : Value). fixed_from (shape_of c.survey.fields) boxes f (code_in v)) own) in
            record {
              work = one ∙ sym counts-one;
              state = h.1 ∙ ap (λ (bs : List BoxFrom). whole_state c bs) along ∙ ap (λ (p : List Bool). whole_state c (boxes_along c p)) split
                  ∙ sym (ap (λ (p : List Bool). state_of c p) split ∙ child-state c before b enough short reached (held-is ∙ ap (λ (v : Value). is_bad v) own));
              basis = λ made. boxes-basis c letters (fixed_from (shape_of c.survey.fields) boxes f k) look.basis (omega (arith, more)) h.0 along;
            }
        by Bad own h = record {
          work = one ∙ sym counts-one;
          state = h ∙ sym (ap (λ (p : List Bool). state_of c p) split ∙ child-bad c before b enough short reached (held-is ∙ ap (λ (v : Value). is_bad v) own));
          basis = λ made. absurd (cc (sym (ap (λ (s : PathState). has_basis s) h) ∙ made));
        }
        by (Number x) own h = absurd (no-number c is f x (subst (λ (g : ℕ). has_field (code_fields (shape_of c.survey.fields)) g ≡ true) (sym next_is)
            (next-code c before b enough short reached)) own)

-- the source keeps the fields that the path changes, since they are those of the path before
pub codes-kept : (c : SearchCase) (letters : List Bool) → number_count c < length letters → length letters ≤ field_count c → (keeps : ℕ → Bool)
    → KeepsChanged keeps c (before_last letters) → {E : Type 0} (r : Result (Option Look) E)
    → IfOk r (λ told. IfSome told (λ look. look.state ≡ Open → KeepsChanged keeps c letters))
codes-kept c letters more fit keeps kept (Ok (Some look)) = λ is_open.
    let split = split-last letters false (omega (arith, more)) in
    let counted = ap (λ (p : List Bool). length p) split ∙ longer (before_last letters) (last_letter letters) in
    let same = ap (λ (p : List Bool). changed_numbers c p) split
    ∙ child-numbers-same c (before_last letters) (last_letter letters) (omega (arith, fit, counted)) (omega (arith, more, counted)) in
    subst (λ (fs : List ℕ). keeps (set_of fs) ≡ true) (sym same) kept
codes-kept c letters more fit keeps known (Ok None) = tt
codes-kept c letters more fit keeps known (Err e) = tt
