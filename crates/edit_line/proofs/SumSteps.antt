use Rattle.std.proofs.Common.{◌≡◌, ◌≢◌, ℕ, suc, ◌+◌, ◌<◌, ◌≤◌, Bool, true, false, if◌then◌else◌, List, ◌∷◌, get_or, length, drop, Option, Some, None, Result}
use Rattle.std.proofs.Common.{Ok, Err, ℤ, pos, refl, sym, ap, ◌∙◌, arith, add-one}
use Rattle.std.specs.Ordering.{int_eq}
use Rattle.std.proofs.Math.Seq.{drop-cons}
use Rattle.std.proofs.lemmas.Bool.Decides.{Decides-int_eq}
use Rattle.std.proofs.lemmas.List.{drop_all}
use Rattle.std.specs.Option.{ok_or}
use Rattle.foundation.specs.Results.{◌>>=◌}
use Rattle.fraction128.specs.Formulas.{Ratio, answered, ratio_of}
use Rattle.fraction128.specs.declared.fraction.Fraction.{Fraction}
use Rattle.edit_model.specs.Rows.{value_of}
use Rattle.edit_model.specs.Trials.{sum_with}
use Rattle.edit_model.specs.declared.value.Value.{Value}
use Rattle.edit_line.specs.Sums.{next_sum, sum_from}

-- Steps of a sum: what a call answers, and what the sum is from there on.

false_unless : (b : Bool) → (b ≡ true → ⊥) → b ≡ false
false_unless true h = absurd (h refl)
false_unless false h = refl

-- a factor other than 0 adds its product
pub next-product : (a : ℤ) (v : Value) (sum : Ratio) → a ≢ pos 0 → next_sum a v sum ≡ sum_with sum a v
next-product a v sum apart = ap (λ b. if b then Some sum else sum_with sum a v) (false_unless (int_eq a (pos 0)) (λ h. apart ((Decides-int_eq a (pos 0)).0 h)))

-- the factor 0 adds nothing
pub next-nothing : (a : ℤ) (v : Value) (sum : Ratio) → a ≡ pos 0 → next_sum a v sum ≡ Some sum
next-nothing a v sum is = ap (λ b. if b then Some sum else sum_with sum a v) ((Decides-int_eq a (pos 0)).1 is)

-- the sum from a place on
pub sum_from-at : (fields : List ℕ) (factors : List ℤ) (row : List Value) (sum : Ratio) (i e : ℕ) (d : ℤ) → i < length fields → i < length factors
    → sum_from (drop i fields) (drop i factors) row sum
    ≡ (ok_or (next_sum (get_or factors i d) (value_of row (get_or fields i e)) sum) (get_or fields i e)
    >>= (λ next. sum_from (drop (i + 1) fields) (drop (i + 1) factors) row next))
sum_from-at fields factors row sum i e d below within =
    rw (add-one) (ap (λ fs. sum_from fs (drop i factors) row sum) (drop-cons fields i e below)
    ∙ ap (λ (as_ : List ℤ). sum_from (get_or fields i e ∷ drop (suc i) fields) as_ row sum) (drop-cons factors i d within))

-- past the last field the sum is whole
pub sum_from-end : (fields : List ℕ) (factors : List ℤ) (row : List Value) (sum : Ratio) (i : ℕ) → length fields ≤ i
    → sum_from (drop i fields) (drop i factors) row sum ≡ Ok sum
sum_from-end fields factors row sum i past = ap (λ fs. sum_from fs (drop i factors) row sum) (drop_all i fields past)

-- what is answered for a factor times a value is the next sum
module _ {E : Type 0} (a given : ℤ) (v read : Value) (sum : Ratio) (r : Result Fraction E) (apart : a ≢ pos 0) (same : given ≡ a) (is : read ≡ v)
    (answer : answered r ≡ sum_with sum given read) where
  by_answer : next_sum a v sum ≡ answered r
  by_answer = next-product a v sum apart ∙ sym (answer ∙ ap (λ (k : ℤ). sum_with sum k read) same ∙ ap (λ (w : Value). sum_with sum a w) is)

  pub next-answered : (x : Fraction) → r ≡ Ok x → next_sum a v sum ≡ Some (ratio_of x)
  next-answered x was = by_answer ∙ ap answered was

  pub next-overflow : (e : E) → r ≡ Err e → next_sum a v sum ≡ None
  next-overflow e was = by_answer ∙ ap answered was

-- ---- a loop over the fields and the factors of a line

module _ (fields : List ℕ) (factors : List ℤ) (row : List Value) (sum : Ratio) (whole : Result Ratio ℕ) (i f : ℕ) (a : ℤ) (below : i < length fields)
    (many : length factors ≡ length fields)
    (field_is : f ≡ get_or fields i 0) (factor_is : a ≡ get_or factors i (pos 0)) where
  here : sum_from (drop i fields) (drop i factors) row sum ≡ whole
      → (ok_or (next_sum a (value_of row f) sum) f >>= (λ next. sum_from (drop (i + 1) fields) (drop (i + 1) factors) row next)) ≡ whole
  here before =
      ap (λ n. (ok_or (next_sum a (value_of row n) sum) n >>= (λ next. sum_from (drop (i + 1) fields) (drop (i + 1) factors) row next))) field_is
      ∙ ap (λ (k : ℤ). (ok_or (next_sum k (value_of row (get_or fields i 0)) sum) (get_or fields i 0)
      >>= (λ next. sum_from (drop (i + 1) fields) (drop (i + 1) factors) row next))) factor_is
      ∙ sym (sum_from-at fields factors row sum i 0 (pos 0) below (omega arith)) ∙ before

  -- a sum that leaves the range ends the loop at its field
  pub overflow-there : sum_from (drop i fields) (drop i factors) row sum ≡ whole → next_sum a (value_of row f) sum ≡ None → whole ≡ Err f
  overflow-there before none = sym (here before)
      ∙ ap (λ (o : Option Ratio). (ok_or o f >>= (λ next. sum_from (drop (i + 1) fields) (drop (i + 1) factors) row next))) none

  -- and else the loop goes on
  pub sum-more : (next : Ratio) → sum_from (drop i fields) (drop i factors) row sum ≡ whole → next_sum a (value_of row f) sum ≡ Some next
      → sum_from (drop (i + 1) fields) (drop (i + 1) factors) row next ≡ whole
  sum-more next before some = sym (ap (λ (o : Option Ratio). (ok_or o f >>= (λ next. sum_from (drop (i + 1) fields) (drop (i + 1) factors) row next))) some)
      ∙ here before
