use Rattle.std.proofs.Common.{◌≡◌, ℕ, ◌+◌, ◌<◌, ℤ, pos, ◌*ℤ◌, List, Option, None, Some, Result, Ok, Err, drop, get_or, length, sym, ap, ◌∙◌}
use Rattle.std.proofs.lemmas.List.{at_drop_more}
use Rattle.foundation.specs.Options.{◌>>?◌}
use Rattle.fraction128.proofs.CommonDenominator.{whole_is}
use Rattle.fraction128.specs.Formulas.{Ratio, added, answered, ratio_of, scaled}
use Rattle.fraction128.specs.declared.fraction.Fraction.{Fraction}
use Rattle.edit_model.specs.Rows.{value_of}
use Rattle.edit_model.specs.Trials.{sum_over, sum_with}
use Rattle.edit_model.specs.declared.rule.Term.{Term}
use Rattle.edit_model.specs.declared.value.Value.{Value}
use Rattle.edit_model.specs.declared.value.Value.TheVariants.{Number}

-- One step of a trial: what a call answers, and what the sum or the rule is from there on.

-- the sum with a number times a factor, where the product is in range
pub with_number : {E F : Type 0} (sum x y : Fraction) (k given : ℤ) (v : Value) (first : Result Fraction E) (second : Result Fraction F) → v ≡ Number x → given
    ≡ k
    → answered first ≡ scaled (ratio_of x) given → first ≡ Ok y → answered second ≡ added (ratio_of sum) (ratio_of y) → answered second
    ≡ sum_with (ratio_of sum) k v
with_number sum x y k given v first second is same product was total =
    let scale_is : scaled (ratio_of x) k ≡ Some (ratio_of y) = ap (λ (n : ℤ). scaled (ratio_of x) n) (sym same) ∙ sym product ∙ ap answered was in
    rw is (total ∙ ap (λ (o : Option Ratio). (o >>? (λ z. added (ratio_of sum) z))) (sym scale_is))

-- none, where the product leaves the range
pub with_overflow : {E F : Type 0} (sum x : Fraction) (k given : ℤ) (v : Value) (first : Result Fraction E) (last : Result Fraction F) (e : E) (f : F)
    → v ≡ Number x → given ≡ k → answered first ≡ scaled (ratio_of x) given → first ≡ Err e → last ≡ Err f → answered last ≡ sum_with (ratio_of sum) k v
with_overflow sum x k given v first last e f is same product was out =
    let scale_is : scaled (ratio_of x) k ≡ None = ap (λ (n : ℤ). scaled (ratio_of x) n) (sym same) ∙ sym product ∙ ap answered was in
    rw is (ap answered out ∙ ap (λ (o : Option Ratio). (o >>? (λ z. added (ratio_of sum) z))) (sym scale_is))

-- a whole number over 1
pub over_one : (x : Fraction) (n given : ℤ) → given ≡ n → x.numerator *ℤ pos 1 ≡ given *ℤ x.denominator → ratio_of x
    ≡ record { numerator = n; denominator = pos 1 }
over_one x n given same is =
    let whole = whole_is x n (is ∙ ap (λ (z : ℤ). z *ℤ x.denominator) same) in λ i. record { numerator = whole.0 i; denominator = whole.1 i }

-- the sum of a test's terms up to a place, and with the term there
pub sum-more : (terms items : List Term) (row : List Value) (whole : Option Ratio) (i : ℕ) (d : Term) (sum next : Ratio) → items ≡ terms → i < length items
    → Some next ≡ sum_with sum (get_or items i d).factor (value_of row (get_or items i d).field) → sum_over (drop i terms) row sum ≡ whole
    → sum_over (drop (i + 1) terms) row next ≡ whole
sum-more terms items row whole i d sum next same below is before =
    ap (λ (ts : List Term). sum_over (drop (i + 1) ts) row next) (sym same)
    ∙ ap (λ (o : Option Ratio). (o >>? (λ z. sum_over (drop (i + 1) items) row z))) is
    ∙ sym (at_drop_more (λ (ts : List Term). sum_over ts row sum) items i d below)
    ∙ ap (λ (ts : List Term). sum_over (drop i ts) row sum) same ∙ before
