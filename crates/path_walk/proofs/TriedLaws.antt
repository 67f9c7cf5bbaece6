use Rattle.std.proofs.Common.{◌≡◌, ◌≢◌, ◌==◌, ◌&&◌, ◌||◌, ℕ, zero, suc, ◌+◌, ◌-◌, ◌<◌, ◌≤◌, nat_lt, Bool, true, false, if◌then◌else◌, List, [], ◌∷◌}
use Rattle.std.proofs.Common.{◌++◌, ℤ, pos, length, slice_index_or, Result, Ok, Err, refl, sym, ap, ◌∙◌, subst, arith}
use Rattle.std.specs.Ordering.{int_eq}
use Rattle.std.proofs.lemmas.List.{length-take-le}
use Rattle.std.proofs.lemmas.Bool.{ltb-false}
use Rattle.edit_line.specs.Boxes.{are_whole}
use Rattle.edit_line.specs.Lines.{HasShape, LineParts}
use Rattle.edit_line.specs.Shapes.{Domain, number_fields, shape_of}
use Rattle.edit_line.specs.Sums.{fails_at, stands_only}
use Rattle.edit_line.specs.declared.derived.Derived.{Derived}
use Rattle.linear_elim.specs.Systems.{SystemOverflow, system_of}
use Rattle.categ_combine.specs.FailingBoxes.{failing_from}
use Rattle.bound_cert.specs.Paths.{keeps, keeps_bad, path_place}
use Rattle.edit_paths.specs.Cases.{SearchCase}
use Rattle.edit_paths.specs.Paths.{before_last, changed_numbers, number_count}
use Rattle.edit_paths.specs.States.{IsOpen, asks_kept, closed_by, first_failing, state_with_boxes, state_with_system, tried_line}
use Rattle.edit_paths.specs.declared.state.PathState.{PathState}
use Rattle.edit_paths.specs.declared.state.PathState.TheVariants.{ClosedBad, Open}
use Rattle.edit_paths.proofs.ChildLaws.{keeps-same}
use Rattle.edit_paths.proofs.FieldPlaces.{Placed, numbers-placed}
use Rattle.edit_paths.proofs.LetterLaws.{count-kinds}
use Rattle.path_walk.specs.inner.Tries.{HasPassed, IsAside}
use Rattle.path_walk.proofs.LastLetters.{split-last}
use Rattle.path_walk.proofs.NumberPathLaws.{kept-numbers}

-- Lines that were tried at the path before.

-- ---- no line of an open path decides it

module _ (c : SearchCase) (path : List Bool) where
  -- a line that leaves the path open does not decide it, whatever the next lines do
  passing : (i : ℕ) (line : LineParts) (after : PathState) → tried_line c path i line after ≡ Open
      → ((next : PathState) → tried_line c path i line next ≡ next) × (after ≡ Open)
  passing i line after opened = by (asks_kept c path line) (fails_at line c.row) opened
    where
      by : (asks : Bool) (r : Result Bool ℕ) → (if asks then closed_by i r after else after) ≡ Open
          → ((next : PathState) → (if asks then closed_by i r next else next) ≡ next) × (after ≡ Open)
      by false r opened = (λ next. refl, opened)
      by true (Ok true) opened = absurd (cc opened)
      by true (Ok false) opened = (λ next. refl, opened)
      by true (Err f) opened = absurd (cc opened)

  all-passing : (lines : List Derived) (k i j : ℕ) (d : Derived) → first_failing c path k lines ≡ Open → i < length lines → j ≡ k + i
      → d ≡ slice_index_or lines i d
      → (next : PathState) → tried_line c path j d.line next ≡ next
  all-passing [] k i j d opened below at is next = absurd (omega (arith, below))
  all-passing (e ∷ lines) k zero j d opened below at is next =
      ap (λ (n : ℕ). tried_line c path n d.line next) (at ∙ omega arith)
      ∙ ap (λ (x : Derived). tried_line c path k x.line next) is
      ∙ (passing k e.line (first_failing c path (suc k) lines) opened).0 next
  all-passing (e ∷ lines) k (suc i) j d opened below at is next =
      all-passing lines (suc k) i j d (passing k e.line (first_failing c path (suc k) lines) opened).1 (omega (arith, below)) (at ∙ omega arith) is next

  -- of an open path that does not have all numerical fields no line of its system decides
  opened-lines : (lines : List Derived) → length path < number_count c → system_of c.edits (changed_numbers c path) ≡ Ok lines → IsOpen c path
      → first_failing c path 0 lines ≡ Open
  opened-lines lines short made opened = at_bad (keeps_bad c.survey.fields c.row path) opened
    where
      at_few : (b : Bool) → nat_lt (length path) (number_count c) ≡ b
          → (if b then first_failing c path 0 lines else state_with_boxes c path lines (failing_from 0 lines c.row [])) ≡ Open
          → first_failing c path 0 lines ≡ Open
      at_few true few opened = opened
      at_few false few opened = absurd (omega (arith, ltb-false (length path) (number_count c) few, short))

      at_system : (r : Result (List Derived) SystemOverflow) → r ≡ Ok lines → state_with_system c path r ≡ Open → first_failing c path 0 lines ≡ Open
      at_system r is opened = at_few (nat_lt (length path) (number_count c)) refl (subst (λ s. state_with_system c path s ≡ Open) is opened)

      at_bad : (b : Bool) → (if b then ClosedBad else state_with_system c path (system_of c.edits (changed_numbers c path))) ≡ Open
          → first_failing c path 0 lines ≡ Open
      at_bad true opened = absurd (cc opened)
      at_bad false opened = at_system (system_of c.edits (changed_numbers c path)) made opened

-- the lines of a path that keeps its last field did not decide the path before, if that is open
pub lines-passed : (c : SearchCase) (path : List Bool) (lines : List Derived) (i : ℕ) (d : Derived) → length path ≤ number_count c
    → (0 < length path → IsOpen c (before_last path))
    → system_of c.edits (changed_numbers c path) ≡ Ok lines → i < length lines → d ≡ slice_index_or lines i d → HasPassed c path i d.line
lines-passed c path lines i d fit reached made below is some kept =
    let shorter : length (before_last path) < number_count c = omega (arith, length-take-le (length path - 1) path (omega arith), some, fit) in
    let made_before = ap (λ (fs : List ℕ). system_of c.edits fs) (sym (kept-numbers c path fit kept)) ∙ made in
    all-passing c (before_last path) lines 0 i i d (opened-lines c (before_last path) lines shorter made_before (reached some)) below (omega arith) is

-- ---- a line without the last field is tried as before

-- the tests of kept fields that differ at one field alone, whose factor is 0
alike-beside : (c : SearchCase) (s t : ℕ → Bool) (n k : ℕ) (fields : List ℕ) (factors : List ℤ) → Placed c k fields
    → ((f : ℕ) → path_place c.survey.fields f ≢ n → s f ≡ t f)
    → ((i : ℕ) → k + i ≡ n → slice_index_or factors i (pos 0) ≡ pos 0) → stands_only s fields factors ≡ stands_only t fields factors
alike-beside c s t n k [] factors placed same none = refl
alike-beside c s t n k (f ∷ fields) [] placed same none = refl
alike-beside c s t n k (f ∷ fields) (a ∷ factors) placed same none =
    ap (λ b. b && stands_only s fields factors) (head (k == n) refl)
    ∙ ap (λ b. (int_eq a (pos 0) || t f) && b) (alike-beside c s t n (suc k) fields factors placed.1 same (λ i at. none (suc i) (omega arith ∙ at)))
  where
    head : (b : Bool) → (k == n) ≡ b → (int_eq a (pos 0) || s f) ≡ (int_eq a (pos 0) || t f)
    head true e = let zero_is = ap (λ (z : ℤ). int_eq z (pos 0)) (none 0 (grind (arith, e))) in ap (λ b. b || s f) zero_is ∙ sym (ap (λ b. b || t f) zero_is)
    head false e = ap (λ b. int_eq a (pos 0) || b) (same f (λ here. absurd (grind (arith, e, here, placed.0))))

-- a line in which the last field does not stand is asked as at the path before
pub aside-asked : (c : SearchCase) (path : List Bool) (line : LineParts) → length path ≤ number_count c → HasShape (shape_of c.survey.fields) line
    → IsAside path line.factors
    → asks_kept c path line ≡ asks_kept c (before_last path) line
aside-asked c path line fit over aside =
    ap (λ b. are_whole (shape_of c.survey.fields) line.sets && b)
    (ap (λ (p : List Bool). stands_only (keeps c.survey.fields p) (number_fields line.shape) line.factors) split
    ∙ alike-beside c (keeps c.survey.fields (before_last path ++ last ∷ [])) (keeps c.survey.fields (before_last path)) (length (before_last path)) 0
    (number_fields line.shape) line.factors
    (subst (λ (s : List Domain). Placed c 0 (number_fields s)) (sym over.same) (numbers-placed c))
    (keeps-same c (before_last path) last (omega (arith, shorter, aside.some, fit, count-kinds c)))
    (λ i at. ap (λ (n : ℕ). slice_index_or line.factors n (pos 0)) (omega (arith, at, shorter)) ∙ aside.none))
  where
    last : Bool
    last = slice_index_or path (length path - 1) false

    split : path ≡ before_last path ++ last ∷ []
    split = split-last path false aside.some

    shorter : length (before_last path) ≡ length path - 1
    shorter = length-take-le (length path - 1) path (omega arith)

-- so it decides nothing
pub aside-tried : (c : SearchCase) (path : List Bool) (i : ℕ) (line : LineParts) → length path ≤ number_count c → HasShape (shape_of c.survey.fields) line
    → HasPassed c path i line → IsAside path line.factors
    → (next : PathState) → tried_line c path i line next ≡ next
aside-tried c path i line fit over passed aside next =
    ap (λ b. if b then closed_by i (fails_at line c.row) next else next) (aside-asked c path line fit over aside) ∙ passed aside.some aside.kept next
