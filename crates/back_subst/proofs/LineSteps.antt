use Rattle.std.proofs.Common.{◌≡◌, ◌≢◌, ℕ, zero, suc, ◌+◌, ◌<◌, ◌≤◌, ◌&&◌, not, Bool, true, false, if◌then◌else◌, List, [], ◌∷◌, Option, Some, None}
use Rattle.std.proofs.Common.{Result, Ok, Err, IfOk, OnOk, OnErr, drop, get_or, length, slice_set, ℤ, pos, refl, sym, ap, ◌∙◌, arith}
use lib.IntN.{neg_ℤ}
use Rattle.std.specs.Ordering.{int_eq}
use Rattle.std.proofs.Math.Seq.{drop-cons}
use Rattle.std.proofs.lemmas.Bool.Decides.{Decides-int_eq}
use Rattle.std.proofs.lemmas.Int.{ints}
use Rattle.std.proofs.lemmas.List.{drop_all}
use Rattle.std.specs.Option.{ok_or}
use Rattle.std.specs.Result.{result_ok}
use Rattle.foundation.specs.Results.{◌>>=◌}
use Rattle.foundation.specs.Options.{◌>>?◌}
use Rattle.fraction128.specs.Arithmetic.{IsQuotient, divided_numbers}
use Rattle.fraction128.specs.Formulas.{Ratio, answered, divided, ratio_of}
use Rattle.fraction128.specs.declared.fraction.Fraction.{Fraction}
use Rattle.fraction128.specs.Range.{AllInRange}
use Rattle.fraction128.proofs.QuotientLaws.{divided-answered}
use Rattle.edit_model.specs.Rows.{value_of}
use Rattle.edit_model.specs.declared.value.Value.{Value}
use Rattle.edit_model.specs.declared.value.Value.TheVariants.{Bad}
use Rattle.edit_line.specs.CodeFields.{codes_in}
use Rattle.edit_line.specs.Lines.{LineParts, factor}
use Rattle.edit_line.specs.Reductions.{lines_of}
use Rattle.edit_line.specs.Sets.{are_codes_in}
use Rattle.edit_line.specs.Shapes.{Domain, number_fields, place_in}
use Rattle.edit_line.specs.Sums.{sum_at}
use Rattle.edit_line.specs.declared.derived.Derived.{Derived}
use Rattle.linear_elim.proofs.ColumnLaws.{beside-place}
use Rattle.back_subst.specs.NumberWalk.{FoundBounds, bound_at, bounds_from, is_bounding, with_bound}
use Rattle.back_subst.specs.inner.Sides.{with_line}

-- The bounds of lines, as the code gathers them.

-- ---- places

-- the factor that stands at the field's place
pub factor-at : (shape : List Domain) (line : LineParts) (f place : ℕ) → line.shape ≡ shape → length line.factors ≡ length (number_fields line.shape)
    → place ≡ place_in (number_fields shape) f → get_or line.factors place (pos 0) ≡ factor line f
factor-at shape line f place same many at =
    ap (λ k. get_or line.factors k (pos 0)) (at ∙ ap (λ s. place_in (number_fields s) f) (sym same))
    ∙ beside-place line.factors (number_fields line.shape) f many

-- ---- the rest

pub set-again : (row : List Value) (f : ℕ) → value_of row f ≡ Bad → slice_set row f Bad ≡ row
set-again [] f is = refl
set-again (v ∷ row) zero is = ap (λ (w : Value). w ∷ row) (sym is)
set-again (v ∷ row) (suc f) is = ap (λ ws. v ∷ ws) (set-again row f is)

neg-apart : (a k : ℤ) → k ≡ neg_ℤ a → a ≢ pos 0 → k ≢ pos 0
neg-apart a k is some none = some (back a (sym is ∙ none))
  where
    back : (a : ℤ) → neg_ℤ a ≡ pos 0 → a ≡ pos 0
    back a h = omega (arith, ints)

-- where the line bounds the field that has this factor, from its sum
pub bound-answered : {E : Type 0} (line : LineParts) (row : List Value) (a k : ℤ) (rest : Fraction) (r : Result Fraction E) → k ≡ neg_ℤ a → a ≢ pos 0
    → sum_at line row ≡ Ok (ratio_of rest)
    → IfOk r (λ z. IsQuotient rest k z) → OnOk r (AllInRange (divided_numbers rest k)) → OnErr r (¬ AllInRange (divided_numbers rest k))
    → answered r ≡ (result_ok (sum_at line row) >>? (λ s. divided s (neg_ℤ a)))
bound-answered line row a k rest r is some sum value fits overflow =
    divided-answered rest k r (neg-apart a k is some) value fits overflow ∙ ap (λ (n : ℤ). divided (ratio_of rest) n) is
    ∙ ap (λ s. (result_ok s >>? (λ s. divided s (neg_ℤ a)))) (sym sum)

pub no-bound : (line : LineParts) (row : List Value) (a : ℤ) (f : ℕ) → sum_at line row ≡ Err f
    → None ≡ (result_ok (sum_at line row) >>? (λ s. divided s (neg_ℤ a)))
no-bound line row a f sum = ap (λ s. (result_ok s >>? (λ s. divided s (neg_ℤ a)))) (sym sum)

-- ---- one line

module _ (i f : ℕ) (line : LineParts) (row : List Value) (ends : FoundBounds) where
  by-bounding : (b : Bool) → is_bounding line row f ≡ b
      → (if b then (ok_or (bound_at line row f) i >>= (λ at. Ok (with_bound ends line f at i))) else Ok ends) ≡ with_line i line row f ends
  by-bounding b e = ap (λ t. if t then (ok_or (bound_at line row f) i >>= (λ at. Ok (with_bound ends line f at i))) else Ok ends) (sym e)

  pub without-factor : factor line f ≡ pos 0 → Ok ends ≡ with_line i line row f ends
  without-factor none =
      by-bounding false (ap (λ b. are_codes_in line.sets (codes_in line.shape row) && not b) ((Decides-int_eq (factor line f) (pos 0)).1 none)
      ∙ nothing (are_codes_in line.sets (codes_in line.shape row)))
    where
      nothing : (b : Bool) → (b && false) ≡ false
      nothing true = refl
      nothing false = refl

  pub without-codes : are_codes_in line.sets (codes_in line.shape row) ≡ false → Ok ends ≡ with_line i line row f ends
  without-codes out = by-bounding false (ap (λ b. b && not (int_eq (factor line f) (pos 0))) out)

  module _ (inside : are_codes_in line.sets (codes_in line.shape row) ≡ true) (some : factor line f ≢ pos 0) (blank : value_of row f ≡ Bad)
      (o : Option Ratio) (o_is : o ≡ (result_ok (sum_at line row) >>? (λ s. divided s (neg_ℤ (factor line f))))) where
    bounding : is_bounding line row f ≡ true
    bounding = ap (λ b. b && not (int_eq (factor line f) (pos 0))) inside ∙ by (int_eq (factor line f) (pos 0)) refl
      where
        by : (b : Bool) → int_eq (factor line f) (pos 0) ≡ b → not b ≡ true
        by false e = refl
        by true e = absurd (some ((Decides-int_eq (factor line f) (pos 0)).0 e))

    bound-is : o ≡ bound_at line row f
    bound-is = o_is ∙ ap (λ ws. (result_ok (sum_at line ws) >>? (λ s. divided s (neg_ℤ (factor line f))))) (sym (set-again row f blank))

    stepped : (ok_or o i >>= (λ at. Ok (with_bound ends line f at i))) ≡ with_line i line row f ends
    stepped = ap (λ b. (ok_or b i >>= (λ at. Ok (with_bound ends line f at i)))) bound-is ∙ by-bounding true bounding

    pub with-bound : (at : Ratio) → o ≡ Some at → Ok (with_bound ends line f at i) ≡ with_line i line row f ends
    with-bound at e = ap (λ b. (ok_or b i >>= (λ at. Ok (with_bound ends line f at i)))) (sym e) ∙ stepped

    pub without-bound : o ≡ None → Err i ≡ with_line i line row f ends
    without-bound e = ap (λ b. (ok_or b i >>= (λ at. Ok (with_bound ends line f at i)))) (sym e) ∙ stepped

  -- ---- and the lines after it

  module _ (rest : List LineParts) where
    abbrev next : Result FoundBounds ℕ → Result FoundBounds ℕ
    next (Ok e) = bounds_from (suc i) rest row f e
    next (Err p) = Err p

    then-ends : (b : Bool) (o : Option Ratio)
        → next (if b then (ok_or o i >>= (λ at. Ok (with_bound ends line f at i))) else Ok ends)
        ≡ (if b then (ok_or o i >>= (λ at. bounds_from (suc i) rest row f (with_bound ends line f at i))) else bounds_from (suc i) rest row f ends)
    then-ends true None = refl
    then-ends true (Some at) = refl
    then-ends false o = refl

    ends-step : next (with_line i line row f ends) ≡ bounds_from i (line ∷ rest) row f ends
    ends-step = then-ends (is_bounding line row f) (bound_at line row f)

    ends-ok : (ends' : FoundBounds) → Ok ends' ≡ with_line i line row f ends → bounds_from (suc i) rest row f ends' ≡ bounds_from i (line ∷ rest) row f ends
    ends-ok ends' e = ap next e ∙ ends-step

module _ (lines : List Derived) (row : List Value) (i f : ℕ) (d : Derived) (ends : FoundBounds) (whole : Result FoundBounds ℕ) (below : i < length lines)
    (d_is : d ≡ get_or lines i d)
    (before : bounds_from i (lines_of (drop i lines)) row f ends ≡ whole) where
  here : bounds_from i (d.line ∷ lines_of (drop (suc i) lines)) row f ends ≡ whole
  here =
      ap (λ (e : Derived). bounds_from i (e.line ∷ lines_of (drop (suc i) lines)) row f ends) d_is
      ∙ ap (λ ds. bounds_from i (lines_of ds) row f ends) (sym (drop-cons lines i d below)) ∙ before

  pub ends-more : (ends' : FoundBounds) → Ok ends' ≡ with_line i d.line row f ends → bounds_from (i + 1) (lines_of (drop (i + 1) lines)) row f ends' ≡ whole
  ends-more ends' e =
      ap (λ n. bounds_from n (lines_of (drop n lines)) row f ends') next_place ∙ ends-ok i f d.line row ends (lines_of (drop (suc i) lines)) ends' e ∙ here
    where
      next_place : i + 1 ≡ suc i
      next_place = omega arith

pub ends-end : (lines : List Derived) (row : List Value) (i f : ℕ) (ends : FoundBounds) (whole : Result FoundBounds ℕ) → length lines ≤ i
    → bounds_from i (lines_of (drop i lines)) row f ends ≡ whole → Ok ends ≡ whole
ends-end lines row i f ends whole past before = ap (λ ds. bounds_from i (lines_of ds) row f ends) (sym (drop_all i lines past)) ∙ before
