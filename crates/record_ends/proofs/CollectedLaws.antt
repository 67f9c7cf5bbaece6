use Rattle.std.proofs.Common.{◌≡◌, List, [], ◌∷◌, map, Ok, Err, Result, Vec, Global, sym, subst}
use Rattle.std.specs.Result.{IfOk, MatchResult}
use Rattle.std.specs.List.{AllZip}

-- What a map that may refuse gives, where it does not.

module _ {X Y : Type 0} (E : Type 0) (P : X → Y → Type 0) where
  ok-items : (xs : List X) (ys : List Y) → AllZip (λ x (r : Result Y E). IfOk r (P x)) xs (map (λ (y : Y). Ok y) ys) → AllZip P xs ys
  ok-items [] [] all = tt
  ok-items [] (y ∷ ys) all = absurd all
  ok-items (x ∷ xs) [] all = absurd all
  ok-items (x ∷ xs) (y ∷ ys) all = (all.0, ok-items xs ys all.1)

  pub collected : (xs : List X) (rs : List (Result Y E)) (r : Result (Vec Y Global) E) (other : E → Type 0) → AllZip (λ x (r : Result Y E). IfOk r (P x)) xs rs
      → MatchResult r (λ v. (ys : List Y) × (rs ≡ map (λ (y : Y). Ok y) ys) × (v.items ≡ ys)) other → IfOk r (λ v. AllZip P xs v.items)
  collected xs rs (Ok v) other all is = subst (AllZip P xs) (sym is.2) (ok-items xs is.0 (subst (AllZip (λ x (r : Result Y E). IfOk r (P x)) xs) is.1 all))
  collected xs rs (Err e) other all is = tt
