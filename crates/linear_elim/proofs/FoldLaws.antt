use Rattle.std.proofs.Common.{◌≡◌, ◌↔◌, ℕ, List, [], ◌∷◌, ◌++◌, All, map, Result, Ok, Err, refl, sym, ap, ◌∙◌, subst}
use Rattle.std.proofs.lemmas.List.Elements.{All-map}
use Rattle.foundation.specs.Results.{◌>>=◌, fault_as}
use Rattle.edit_model.specs.Points.{Point}
use Rattle.edit_line.specs.EditSets.{AreEdits, EditsParts, base_lines}
use Rattle.edit_line.specs.Lines.{AllHold, AreOver, HaveShape, IsLine, LineParts}
use Rattle.edit_line.specs.Reductions.{lines_of, reduce, reduce_derived}
use Rattle.edit_line.specs.Shapes.{Domain, IsNumerical}
use Rattle.edit_line.specs.declared.derived.Derived.{Derived}
use Rattle.edit_line.proofs.ReductionLaws.{all-reduce, reduce-lines, reduced-same}
use Rattle.linear_elim.specs.Steps.{StepOverflow, step_result}
use Rattle.linear_elim.specs.Systems.{SystemOverflow, chosen_fields, fold_result, overflow_at, system_at, system_of}
use Rattle.linear_elim.proofs.ChosenFields.{HasOneMore, chosen-more}
use Rattle.linear_elim.proofs.ResultLaws.{HaveShape-result, base-plain, ok_same}
use Rattle.linear_elim.proofs.ShapeLaws.{HaveShape-lines}

-- The fold over more fields is the fold over the first, and then over the others.

-- ---- over some fields, and then over others

pub fold-joined : (lines : List Derived) (fs gs : List ℕ) (ys : List Derived) → fold_result lines fs ≡ Ok ys → fold_result lines (fs ++ gs) ≡ fold_result ys gs
fold-joined lines [] gs ys is = ap (λ (ls : List Derived). fold_result ls gs) (cc)
fold-joined lines (f ∷ fs) gs ys is = by (step_result lines f) is (λ next. fold-joined next fs gs ys)
  where
    by : (r : Result (List Derived) StepOverflow) → (fault_as (overflow_at f) r >>= (λ next. fold_result next fs)) ≡ Ok ys
        → ((next : List Derived) → fold_result next fs ≡ Ok ys → fold_result next (fs ++ gs) ≡ fold_result ys gs)
        → (fault_as (overflow_at f) r >>= (λ next. fold_result next (fs ++ gs))) ≡ fold_result ys gs
    by (Ok next) is rest = rest next is
    by (Err fault) is rest = absurd (cc)

pub fold-fault : (lines : List Derived) (fs gs : List ℕ) (fault : SystemOverflow) → fold_result lines fs ≡ Err fault → fold_result lines (fs ++ gs) ≡ Err fault
fold-fault lines [] gs fault is = absurd (cc)
fold-fault lines (f ∷ fs) gs fault is = by (step_result lines f) is (λ next. fold-fault next fs gs fault)
  where
    by : (r : Result (List Derived) StepOverflow) → (fault_as (overflow_at f) r >>= (λ next. fold_result next fs)) ≡ Err fault
        → ((next : List Derived) → fold_result next fs ≡ Err fault → fold_result next (fs ++ gs) ≡ Err fault)
        → (fault_as (overflow_at f) r >>= (λ next. fold_result next (fs ++ gs))) ≡ Err fault
    by (Ok next) is rest = rest next is
    by (Err other) is rest = ap (λ e. Err e) (cc)

-- one field more is one step more
pub fold-next : (lines : List Derived) (before : List ℕ) (last : ℕ) (ys : List Derived) → fold_result lines (before ++ last ∷ []) ≡ Ok ys
    → (reached : List Derived) × (fold_result lines before ≡ Ok reached) × (step_result reached last ≡ Ok ys)
fold-next lines before last ys is = by (fold_result lines before) refl
  where
    of_step : (r : Result (List Derived) StepOverflow) → (fault_as (overflow_at last) r >>= (λ next. Ok next)) ≡ Ok ys → r ≡ Ok ys
    of_step (Ok next) e = ap (λ (ds : List Derived). Ok ds) (ok_same next ys (fold_result next []) refl e)
    of_step (Err fault) e = absurd (cc)

    by : (r : Result (List Derived) SystemOverflow) → fold_result lines before ≡ r
        → (reached : List Derived) × (r ≡ Ok reached) × (step_result reached last ≡ Ok ys)
    by (Ok reached) e = (reached, refl, of_step (step_result reached last) (sym (fold-joined lines before (last ∷ []) reached e) ∙ is))
    by (Err fault) e = absurd (cc (sym (fold-fault lines before (last ∷ []) fault e) ∙ is))

-- and where the step stops, the fold stops there
pub fold-stopped : (lines : List Derived) (before : List ℕ) (last : ℕ) (reached : List Derived) (fault : StepOverflow)
    → fold_result lines before ≡ Ok reached → step_result reached last ≡ Err fault
    → fold_result lines (before ++ last ∷ []) ≡ Err (record { field = last; step = fault })
fold-stopped lines before last reached fault is stops =
    fold-joined lines before (last ∷ []) reached is ∙ ap (λ r. (fault_as (overflow_at last) r >>= (λ next. Ok next))) stops

-- the system without a later field more is one step from the system before
pub system-next : (edits : EditsParts) (bits more last : ℕ) (lines : List Derived) → IsNumerical edits.shape last → HasOneMore bits more last
    → system_at edits bits ≡ Ok lines → system_at edits more ≡ (fault_as (overflow_at last) (step_result lines last) >>= (λ next. Ok next))
system-next edits bits more last lines number one is =
    ap (λ fs. system_of edits.lines fs) (chosen-more edits.shape bits more last number one)
    ∙ fold-joined (reduce_derived (base_lines edits.lines)) (chosen_fields edits.shape bits) (last ∷ []) lines is

-- the fold's lines stay over the fields of the shape
pub HaveShape-folded : (shape : List Domain) (lines : List Derived) (fs : List ℕ) (ys : List Derived) → fold_result lines fs ≡ Ok ys
    → HaveShape shape (lines_of lines) → HaveShape shape (lines_of ys)
HaveShape-folded shape lines [] ys is over = subst (λ (ls : List Derived). HaveShape shape (lines_of ls)) (cc) over
HaveShape-folded shape lines (f ∷ fs) ys is over = by (step_result lines f) refl is (λ next. HaveShape-folded shape next fs ys)
  where
    by : (r : Result (List Derived) StepOverflow) → step_result lines f ≡ r → (fault_as (overflow_at f) r >>= (λ next. fold_result next fs)) ≡ Ok ys
        → ((next : List Derived) → fold_result next fs ≡ Ok ys → HaveShape shape (lines_of next) → HaveShape shape (lines_of ys))
        → HaveShape shape (lines_of ys)
    by (Ok next) was is rest = rest next is (HaveShape-result shape lines f next was over)
    by (Err fault) was is rest = absurd (cc)

-- ---- the lines that the fold begins with

-- the reduced edits are over the fields of the edits
pub HaveShape-start : (shape : List Domain) (edits : List (ℕ × LineParts)) (start : List Derived) → AreEdits shape edits
    → start ≡ reduce_derived (base_lines edits) → All IsLine (lines_of start) → HaveShape shape (lines_of start)
HaveShape-start shape edits start are is lines =
    HaveShape-lines shape (lines_of start) lines
    (subst (λ (ls : List LineParts). AreOver shape ls)
    (sym (ap (λ (ds : List Derived). lines_of ds) is ∙ reduce-lines (base_lines edits) ∙ ap (λ (ls : List LineParts). reduce ls) (base-plain edits)))
    (all-reduce (λ (line : LineParts). line.shape ≡ shape) (map (λ (e : ℕ × LineParts). e.1) edits)
    (All-map (λ (line : LineParts). line.shape ≡ shape) (λ (e : ℕ × LineParts). e.1) edits are.over)))

-- the reduced edits hold where the edits do
pub start-same : (shape : List Domain) (edits : List (ℕ × LineParts)) (start : List Derived) → AreEdits shape edits → start ≡ reduce_derived (base_lines edits)
    → (q : Point) → AllHold (lines_of start) q ↔ AllHold (map (λ (e : ℕ × LineParts). e.1) edits) q
start-same shape edits start are is q =
    let base_over = subst (λ (ls : List LineParts). AreOver shape ls) (sym (base-plain edits))
    (All-map (λ (line : LineParts). line.shape ≡ shape) (λ (e : ℕ × LineParts). e.1) edits are.over) in
    let both = reduced-same (base_lines edits) start is q (shape, base_over) in (
      λ holds. subst (λ (ls : List LineParts). AllHold ls q) (base-plain edits) (both.0 holds),
      λ holds. both.1 (subst (λ (ls : List LineParts). AllHold ls q) (sym (base-plain edits)) holds),
    )
