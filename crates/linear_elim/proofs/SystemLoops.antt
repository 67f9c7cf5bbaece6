use Rattle.std.proofs.Common.{◌≡◌, ℕ, zero, suc, ◌+◌, ◌<◌, ◌≤◌, Bool, true, false, if◌then◌else◌, List, [], ◌∷◌, ◌++◌, get_or, length, drop, map}
use Rattle.std.proofs.Common.{filter, Result, Ok, Err, refl, sym, ap, ◌∙◌, subst, arith, add-one}
use Rattle.std.proofs.Math.Seq.{drop-cons}
use Rattle.std.proofs.lemmas.List.{drop_all}
use Rattle.foundation.specs.Results.{◌>>=◌, fault_as}
use Rattle.edit_model.specs.FieldSets.{has_number}
use Rattle.edit_line.specs.Shapes.{Domain, domain_with, number_fields, numbers_from}
use Rattle.edit_line.specs.declared.derived.Derived.{Derived}
use Rattle.linear_elim.specs.Steps.{StepOverflow, step_result}
use Rattle.linear_elim.specs.Systems.{SystemOverflow, chosen_fields, count_after, fold_count, fold_result, overflow_at}
use Rattle.linear_elim.proofs.FoldLaws.{fold-fault, fold-joined}

-- The fold of the step over fields: what was done, and what is left.

-- ---- the fields from one place on

-- the numerical fields of the set, from field i on
abbrev pub chosen_from : ℕ → List ℕ → ℕ → List ℕ
chosen_from bits counts i = filter (has_number bits) (numbers_from i (map domain_with (drop i counts)))

-- the field, if it is numerical and in the set
abbrev pub chosen_here : ℕ → ℕ → ℕ → List ℕ
chosen_here bits count i = filter (has_number bits) (numbers_from i (domain_with count ∷ []))

chosen-cons : (bits i k : ℕ) (counts : List ℕ) → filter (has_number bits) (numbers_from i (map domain_with (k ∷ counts)))
    ≡ chosen_here bits k i ++ filter (has_number bits) (numbers_from (suc i) (map domain_with counts))
chosen-cons bits i zero counts = by (has_number bits i)
  where
    by : (b : Bool) → (if b then i ∷ filter (has_number bits) (numbers_from (suc i) (map domain_with counts)) else filter (has_number bits)
        (numbers_from (suc i) (map domain_with counts)))
        ≡ (if b then i ∷ [] else []) ++ filter (has_number bits) (numbers_from (suc i) (map domain_with counts))
    by true = refl
    by false = refl
chosen-cons bits i (suc k) counts = refl

pub chosen-at : (bits : ℕ) (counts : List ℕ) (i k : ℕ) → i < length counts → k ≡ get_or counts i k
    → chosen_from bits counts i ≡ chosen_here bits k i ++ chosen_from bits counts (i + 1)
chosen-at bits counts i k below at =
    rw (add-one) (ap (λ ks. filter (has_number bits) (numbers_from i (map domain_with ks)))
    (drop-cons counts i k below ∙ ap (λ j. j ∷ drop (suc i) counts) (sym at)) ∙ chosen-cons bits i k (drop (suc i) counts))

pub chosen-end : (bits : ℕ) (counts : List ℕ) (i : ℕ) → length counts ≤ i → chosen_from bits counts i ≡ []
chosen-end bits counts i past = ap (λ ks. filter (has_number bits) (numbers_from i (map domain_with ks))) (drop_all i counts past)

-- ---- the pairs of the fold over some fields, and then over others

pub count-joined : (lines : List Derived) (fs gs : List ℕ) (ys : List Derived) → fold_result lines fs ≡ Ok ys
    → fold_count lines (fs ++ gs) ≡ fold_count lines fs + fold_count ys gs
count-joined lines [] gs ys is = let same : lines ≡ ys = cc in ap (λ (ls : List Derived). fold_count ls gs) same ∙ omega arith
count-joined lines (f ∷ fs) gs ys is = let rest = by (step_result lines f) is (λ next. count-joined next fs gs ys) in omega (arith, rest)
  where
    by : (r : Result (List Derived) StepOverflow) → (fault_as (overflow_at f) r >>= (λ next. fold_result next fs)) ≡ Ok ys
        → ((next : List Derived) → fold_result next fs ≡ Ok ys → fold_count next (fs ++ gs) ≡ fold_count next fs + fold_count ys gs)
        → count_after r (λ next. fold_count next (fs ++ gs)) ≡ count_after r (λ next. fold_count next fs) + fold_count ys gs
    by (Ok next) is rest = rest next is
    by (Err fault) is rest = absurd (cc)

pub count-part : (lines : List Derived) (fs gs : List ℕ) → fold_count lines fs ≤ fold_count lines (fs ++ gs)
count-part lines [] gs = omega arith
count-part lines (f ∷ fs) gs = let rest = by (step_result lines f) (λ next. count-part next fs gs) in omega (arith, rest)
  where
    by : (r : Result (List Derived) StepOverflow) → ((next : List Derived) → fold_count next fs ≤ fold_count next (fs ++ gs))
        → count_after r (λ next. fold_count next fs) ≤ count_after r (λ next. fold_count next (fs ++ gs))
    by (Ok next) rest = rest next
    by (Err fault) rest = omega arith

-- the fields of the set, from the numbers of codes
pub chosen-all : (bits : ℕ) (counts : List ℕ) (domains shape : List Domain) → map domain_with counts ≡ domains → domains ≡ shape
    → chosen_from bits counts 0 ≡ chosen_fields shape bits
chosen-all bits counts domains shape are is = ap (λ (ds : List Domain). filter (has_number bits) (number_fields ds)) (are ∙ is)

-- ---- one field more

module _ (bits : ℕ) (counts : List ℕ) (i k : ℕ) (below : i < length counts) (at : k ≡ get_or counts i k) (lines : List Derived) where
  -- with the field's step
  pub fold-more : (next : List Derived) (whole : Result (List Derived) SystemOverflow) → fold_result lines (chosen_from bits counts i) ≡ whole
      → fold_result lines (chosen_here bits k i) ≡ Ok next
      → fold_result next (chosen_from bits counts (i + 1)) ≡ whole
  fold-more next whole before is =
      sym (ap (λ fs. fold_result lines fs) (chosen-at bits counts i k below at)
      ∙ fold-joined lines (chosen_here bits k i) (chosen_from bits counts (i + 1)) next is) ∙ before

  pub fold-stops : (fault : SystemOverflow) (whole : Result (List Derived) SystemOverflow) → fold_result lines (chosen_from bits counts i) ≡ whole
      → fold_result lines (chosen_here bits k i) ≡ Err fault → whole ≡ Err fault
  fold-stops fault whole before is =
      sym before ∙ ap (λ fs. fold_result lines fs) (chosen-at bits counts i k below at)
      ∙ fold-fault lines (chosen_here bits k i) (chosen_from bits counts (i + 1)) fault is

  pub count-more : (next : List Derived) → fold_result lines (chosen_here bits k i) ≡ Ok next
      → fold_count lines (chosen_from bits counts i) ≡ fold_count lines (chosen_here bits k i) + fold_count next (chosen_from bits counts (i + 1))
  count-more next is =
      ap (λ fs. fold_count lines fs) (chosen-at bits counts i k below at) ∙ count-joined lines (chosen_here bits k i) (chosen_from bits counts (i + 1)) next is

  pub count-stops : fold_count lines (chosen_here bits k i) ≤ fold_count lines (chosen_from bits counts i)
  count-stops =
      subst (λ n. fold_count lines (chosen_here bits k i) ≤ n) (sym (ap (λ fs. fold_count lines fs) (chosen-at bits counts i k below at)))
      (count-part lines (chosen_here bits k i) (chosen_from bits counts (i + 1)))

-- ---- past the last field

-- the lines that the fold has reached are the whole fold's
pub reached-end : (reached ys : List Derived) (left : List ℕ) (whole : Result (List Derived) SystemOverflow) → left ≡ [] → fold_result reached left ≡ whole
    → reached ≡ ys → whole ≡ Ok ys
reached-end reached ys left whole none folded same = sym folded ∙ ap (λ (fs : List ℕ). fold_result reached fs) none ∙ ap (λ (ls : List Derived). Ok ls) same
