use Rattle.std.proofs.Common.{◌≡◌, ℤ, ◌+ℤ◌, ◌*ℤ◌, [], ◌∷◌, FitsSigned, sym, subst}
use Rattle.std.proofs.lemmas.Int.{to_z-of_z}
use Rattle.std.proofs.lemmas.Result.{IfOk-from_err}
use Rattle.std.specs.Prelude.{Result, Ok, Err, OkIff, IsErr, IfOk, OnOk, OnErr}
use mir.Syntax.{w128}
use Rattle.fraction128.specs.Range.{InRange, AllInRange}
use Rattle.fraction128.proofs.RangeLaws.{FitsSigned-in_range, OnErr-always}
use Rattle.fraction128.proofs.range.sum_of_products.Goals as goal

-- what a result says of the sum of a and b, and of all three numbers
record SumOf (E : Type 0) (r : Result ℤ E) (a b : ℤ) : Type 0 where
  value : IfOk r (λ sum. sum ≡ a +ℤ b)
  fits : OnOk r (AllInRange (a ∷ b ∷ (a +ℤ b) ∷ []))
  overflow : OnErr r (¬ AllInRange (a ∷ b ∷ (a +ℤ b) ∷ []))

-- it is an error where one of them is out of range
SumOf-from_err : {E : Type 0} (r : Result ℤ E) (a b : ℤ) → IsErr r → ¬ AllInRange (a ∷ b ∷ (a +ℤ b) ∷ [])
    → SumOf E r a b
SumOf-from_err r a b h out = record {
  value = IfOk-from_err r (λ sum. sum ≡ a +ℤ b) h;
  fits = IfOk-from_err r (λ _. AllInRange (a ∷ b ∷ (a +ℤ b) ∷ [])) h;
  overflow = OnErr-always r (¬ AllInRange (a ∷ b ∷ (a +ℤ b) ∷ [])) out;
}

-- where both are in range, it is the sum or says that the sum is not
SumOf-from_iff : {E : Type 0} (r : Result ℤ E) (a b : ℤ) → InRange a → InRange b → OkIff r (InRange (a +ℤ b)) (a +ℤ b)
    → SumOf E r a b
SumOf-from_iff (Ok x) a b first second h = record { value = h.1; fits = (first, (second, (h.0, tt))); overflow = tt }
SumOf-from_iff (Err e) a b first second h = record { value = tt; fits = tt; overflow = λ all. h all.1.1.0 }

pub returns-in_err-first : goal.returns-in_err-first
returns-in_err-first c =
    let a_fits = c.ranges.a in
    let b_fits = c.ranges.b in
    let out = simp to_z-of_z at c.in_err-first.ensures in
    let first = c.args.a *ℤ c.args.b in
    let second = c.args.c *ℤ c.args.d in
    let is = SumOf-from_err c.from_residual.result first second c.from_residual.ensures.0 (λ all. out all.0) in
    record { value = is.value; fits = is.fits; overflow = is.overflow }

pub returns-in_err-second : goal.returns-in_err-second
returns-in_err-second c =
    let c_fits = c.ranges.c in
    let d_fits = c.ranges.d in
    let out = simp to_z-of_z at c.in_err-second.ensures in
    let first = c.args.a *ℤ c.args.b in
    let second = c.args.c *ℤ c.args.d in
    let error = c.from_residual-in_err-second in
    let is = SumOf-from_err error.result first second error.ensures.0 (λ all. out all.1.0) in
    record { value = is.value; fits = is.fits; overflow = is.overflow }

pub returns : goal.returns
returns c =
    let a_fits = c.ranges.a in
    let b_fits = c.ranges.b in
    let c_fits = c.ranges.c in
    let d_fits = c.ranges.d in
    let first = simp to_z-of_z at c.in_ok-first.ensures in
    let second = simp to_z-of_z at c.in_ok-second.ensures in
    let first_fits : FitsSigned w128 c.in_ok-first.first = subst (FitsSigned w128) (sym first.1) (FitsSigned-in_range _ first.0) in
    let second_fits : FitsSigned w128 c.in_ok-second.second = subst (FitsSigned w128) (sym second.1) (FitsSigned-in_range _ second.0) in
    let sum = simp to_z-of_z at c.sum_in_range.ensures in
    let by_products = rw (first.1, second.1) at sum in
    let is = SumOf-from_iff c.sum_in_range.result (c.args.a *ℤ c.args.b) (c.args.c *ℤ c.args.d) first.0 second.0 by_products in
    record { value = is.value; fits = is.fits; overflow = is.overflow }
