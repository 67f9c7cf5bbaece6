use Rattle.std.proofs.Common.{◌≡◌, ◌≢◌, inl, inr, ℕ, suc, Bool, true, false, if◌then◌else◌, List, [], ◌∷◌, Option, Some, None, Result, Ok, Err, ℤ}
use Rattle.std.proofs.Common.{pos, refl, ap, ◌∙◌, sym}
use Rattle.std.specs.Ordering.{int_eq}
use Rattle.std.proofs.lemmas.Bool.Decides.{Decides-int_eq}
use Rattle.std.specs.Option.{ok_or}
use Rattle.foundation.specs.Results.{◌>>=◌, fault_as}
use Rattle.fraction128.specs.Formulas.{Ratio}
use Rattle.edit_model.specs.Rows.{value_of}
use Rattle.edit_model.specs.Trials.{sum_with}
use Rattle.edit_model.specs.declared.value.Value.{Value}
use Rattle.edit_line.specs.Lines.{LineParts, factor}
use Rattle.edit_line.specs.Reductions.{IsIn}
use Rattle.edit_line.specs.Shapes.{number_fields}
use Rattle.edit_line.specs.Sums.{AtFactors, fails_at, fails_by, next_sum, sum_from, whole}
use Rattle.edit_line.proofs.FactorLaws.{at-factors}
use Rattle.categ_combine.specs.BoxLists.{with_box}
use Rattle.categ_combine.specs.FailingBoxes.{boxes_from, line_fault}

-- Two records with the same values where a line reads them have the same sums, and the same boxes.

module _ (row new : List Value) where
  next-same : (a : ℤ) (f : ℕ) (sum : Ratio) → (a ≢ pos 0 → value_of new f ≡ value_of row f) → next_sum a (value_of new f) sum ≡ next_sum a (value_of row f) sum
  next-same a f sum same = by (int_eq a (pos 0)) refl
    where
      by : (b : Bool) → int_eq a (pos 0) ≡ b → (if b then Some sum else sum_with sum a (value_of new f))
          ≡ (if b then Some sum else sum_with sum a (value_of row f))
      by true e = refl
      by false e = ap (λ (v : Value). sum_with sum a v) (same (λ none. absurd (cc (sym e ∙ (Decides-int_eq a (pos 0)).1 none))))

  pub sum-same : (fields : List ℕ) (factors : List ℤ) (sum : Ratio) → AtFactors (λ f. value_of new f ≡ value_of row f) fields factors
      → sum_from fields factors new sum ≡ sum_from fields factors row sum
  sum-same [] factors sum same = refl
  sum-same (f ∷ fields) [] sum same = refl
  sum-same (f ∷ fields) (a ∷ factors) sum same =
      ap (λ (o : Option Ratio). (ok_or o f >>= (λ next. sum_from fields factors new next))) (next-same a f sum same.0)
      ∙ by (next_sum a (value_of row f) sum) (λ next. sum-same fields factors next same.1)
    where
      by : (o : Option Ratio) → ((next : Ratio) → sum_from fields factors new next ≡ sum_from fields factors row next)
          → (ok_or o f >>= (λ next. sum_from fields factors new next)) ≡ (ok_or o f >>= (λ next. sum_from fields factors row next))
      by None rest = refl
      by (Some next) rest = rest next

  fails-same : (line : LineParts) → ((f : ℕ) → factor line f ≢ pos 0 → value_of new f ≡ value_of row f) → fails_at line new ≡ fails_at line row
  fails-same line same =
      ap (fails_by line.relation) (sum-same (number_fields line.shape) line.factors (whole line.constant)
      (at-factors (λ f. value_of new f ≡ value_of row f) line same))

  pub boxes-same : (i : ℕ) (lines : List LineParts) (kept : List (List ℕ))
      → ((line : LineParts) → IsIn line lines → (f : ℕ) → factor line f ≢ pos 0 → value_of new f ≡ value_of row f)
      → boxes_from i lines new kept ≡ boxes_from i lines row kept
  boxes-same i [] kept same = refl
  boxes-same i (line ∷ lines) kept same =
      ap (λ (r : Result Bool ℕ). (fault_as (line_fault i) r >>= (λ fails. boxes_from (suc i) lines new (if fails then with_box kept line.sets else kept))))
      (fails-same line (same line (inl refl))) ∙ by (fails_at line row) (λ next. boxes-same (suc i) lines next (λ l there. same l (inr there)))
    where
      by : (r : Result Bool ℕ) → ((next : List (List ℕ)) → boxes_from (suc i) lines new next ≡ boxes_from (suc i) lines row next)
          → (fault_as (line_fault i) r >>= (λ fails. boxes_from (suc i) lines new (if fails then with_box kept line.sets else kept)))
          ≡ (fault_as (line_fault i) r >>= (λ fails. boxes_from (suc i) lines row (if fails then with_box kept line.sets else kept)))
      by (Ok fails) rest = rest (if fails then with_box kept line.sets else kept)
      by (Err f) rest = refl
