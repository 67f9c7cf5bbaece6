-- How many of a list pass a test.
use Rattle.std.proofs.Common.{◌≡◌, ◌==◌, ◌||◌, not, if◌then◌else◌, Bool, true, false, List, [], ◌∷◌, length, refl}
use Rattle.std.proofs.Math.Dec.{eqb-suc-zero}
use Rattle.std.specs.List.{filter, list_any}

-- none is counted exactly where none passes
pub none-counted : {X : Type 0} (test : X → Bool) (xs : List X) → (length (filter test xs) == 0) ≡ not (list_any test xs)
none-counted test [] = refl
none-counted {X} test (x ∷ xs) = by (test x) (none-counted test xs)
  where
    by : (b : Bool) → (length (filter test xs) == 0) ≡ not (list_any test xs)
        → (length (if b then x ∷ filter test xs else filter test xs) == 0) ≡ not (b || list_any test xs)
    by true rest = eqb-suc-zero (length (filter test xs))
    by false rest = rest
