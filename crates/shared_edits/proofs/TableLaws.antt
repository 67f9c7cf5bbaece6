use Rattle.std.proofs.Common.{◌≡◌, not, cond, List, [], ◌∷◌, ◌++◌, length, length-append, Some, None, is_some, arith}
use mathlib.Core.Bool.{Bool}
use Rattle.std.specs.List.{position}
use Rattle.std.proofs.lemmas.Bool.Decides.{nat_tests}
use Rattle.std.proofs.lemmas.Grind.{common_steps}
use Rattle.std.proofs.lemmas.List.Folds.{position_or_len_push}
use Rattle.std.proofs.lemmas.List.Sums.{prefix_len-le-length}

-- The first element that passes a test stays the first where one more comes; where there was none, it is that one, if it passes.
pub position_push : {X : Type 0} (p : X → Bool) (xs : List X) (y : X) → position p (xs ++ y ∷ [])
    ≡ cond (is_some (position p xs)) (position p xs) (cond (p y) (Some (length xs)) None)
position_push p xs y =
    let as_many = length-append xs (y ∷ []) in
    let within = prefix_len-le-length (λ x. not (p x)) xs in grind (arith, nat_tests, common_steps, as_many, within, position_or_len_push p xs y)
