use Rattle.std.proofs.Common.{◌≡◌, ℕ, List, [], ◌∷◌, Result, Ok, Err, refl, sym, subst}
use Rattle.foundation.specs.Results.{◌>>=◌, fault_as}
use Rattle.edit_line.specs.Lines.{LineParts}
use Rattle.edit_line.specs.Reductions.{AreOwn, lines_of, reduce_derived}
use Rattle.edit_line.specs.declared.derived.Derived.{Derived}
use Rattle.edit_line.proofs.OwnLaws.{own-filter, own-reduced, reduce-own}
use Rattle.linear_elim.specs.Combinations.{is_flat}
use Rattle.linear_elim.specs.Steps.{StepOverflow, eliminated_result, flat_from, reduced_result, step_result}
use Rattle.linear_elim.specs.Systems.{fold_result, overflow_at}
use Rattle.linear_elim.proofs.ResultLaws.{flat-plain, ok_same}

-- The lines of the fold are reduced, and so are those without a field.

-- the lines without the field need no reduction
pub flat-own : (f : ℕ) (lines : List Derived) → AreOwn (lines_of lines) → reduce_derived (flat_from f 0 lines) ≡ flat_from f 0 lines
flat-own f lines own =
    reduce-own (flat_from f 0 lines) (subst (λ (ls : List LineParts). AreOwn ls) (sym (flat-plain f 0 lines)) (own-filter (is_flat f) (lines_of lines) own))

-- those that the fold begins with
pub own-start : (base start : List Derived) → start ≡ reduce_derived base → AreOwn (lines_of start)
own-start base start is = subst (λ (ls : List Derived). AreOwn (lines_of ls)) (sym is) (own-reduced base)

-- and those of a step
pub own-step : (lines : List Derived) (f : ℕ) (next : List Derived) → step_result lines f ≡ Ok next → AreOwn (lines_of next)
own-step lines f next = by (eliminated_result lines f)
  where
    by : (r : Result (List Derived) StepOverflow) → reduced_result r ≡ Ok next → AreOwn (lines_of next)
    by (Ok more) is = own-start more next (ok_same next (reduce_derived more) (Ok (reduce_derived more)) is refl)
    by (Err fault) is = absurd (cc)

-- and those of each step
pub own-folded : (lines : List Derived) (fs : List ℕ) (ys : List Derived) → fold_result lines fs ≡ Ok ys → AreOwn (lines_of lines) → AreOwn (lines_of ys)
own-folded lines [] ys is own = subst (λ (ls : List Derived). AreOwn (lines_of ls)) (cc) own
own-folded lines (f ∷ fs) ys is own = by (step_result lines f) refl is (λ next. own-folded next fs ys)
  where
    by : (r : Result (List Derived) StepOverflow) → step_result lines f ≡ r → (fault_as (overflow_at f) r >>= (λ next. fold_result next fs)) ≡ Ok ys
        → ((next : List Derived) → fold_result next fs ≡ Ok ys → AreOwn (lines_of next) → AreOwn (lines_of ys)) → AreOwn (lines_of ys)
    by (Ok next) was is rest = rest next is (own-step lines f next was)
    by (Err fault) was is rest = absurd (cc)
