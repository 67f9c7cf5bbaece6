use Rattle.std.proofs.Common.{◌≡◌, ℕ, suc, ◌+◌, ◌<◌, ◌⊎◌, inl, inr, List, [], ◌∷◌, ◌++◌, Option, Some, None, Result, Ok, Err, length, length-append, refl, ap}
use Rattle.std.proofs.Common.{arith}
use Rattle.std.specs.Option.{ok_or}
use Rattle.foundation.specs.Results.{◌>>=◌}
use Rattle.derivation.specs.Premises.{Premises}
use Rattle.derivation.specs.ValidSteps.{last_from, last_proved, proved_by, proved_from, steps_result}
use Rattle.derivation.specs.declared.proved.Proved.{Proved}
use Rattle.derivation.specs.declared.step.Step.{Step}

-- The place that is named of a list of steps is that of one of them.

-- valid steps prove as many things as they are
pub length-proved_from : (p : Premises) (earlier : List Proved) (steps : List Step) (all : List Proved) → proved_from p earlier steps ≡ Ok all → length all
    ≡ length earlier + length steps
length-proved_from p earlier [] all e = let same : earlier ≡ all = cc in omega (arith, ap length same)
length-proved_from p earlier (step ∷ steps) all e = by (proved_by p earlier step) (λ proved h. length-proved_from p (earlier ++ proved ∷ []) steps all h) e
  where
    by : (made : Option Proved) → ((proved : Proved) → proved_from p (earlier ++ proved ∷ []) steps ≡ Ok all → length all
        ≡ length (earlier ++ proved ∷ []) + length steps)
        → (ok_or made (length earlier) >>= (λ proved. proved_from p (earlier ++ proved ∷ []) steps)) ≡ Ok all → length all ≡ length earlier + suc (length steps)
    by None later h = absurd (cc)
    by (Some proved) later h = omega (arith, later proved h, length-append earlier (proved ∷ []))

-- the first invalid step is one of them
place-proved_from : (p : Premises) (earlier : List Proved) (steps : List Step) (place : ℕ) → proved_from p earlier steps ≡ Err place
    → place < length earlier + length steps
place-proved_from p earlier [] place e = absurd (cc)
place-proved_from p earlier (step ∷ steps) place e = by (proved_by p earlier step) (λ proved h. place-proved_from p (earlier ++ proved ∷ []) steps place h) e
  where
    by : (made : Option Proved) → ((proved : Proved) → proved_from p (earlier ++ proved ∷ []) steps ≡ Err place
        → place < length (earlier ++ proved ∷ []) + length steps)
        → (ok_or made (length earlier) >>= (λ proved. proved_from p (earlier ++ proved ∷ []) steps)) ≡ Err place → place < length earlier + suc (length steps)
    by None later h = let same : length earlier ≡ place = cc in omega arith
    by (Some proved) later h = omega (arith, later proved h, length-append earlier (proved ∷ []))

-- after one thing was proved there is a last one
last-none : (last : Proved) (all : List Proved) (place : ℕ) → last_from (Some last) all ≡ Err place → ⊥
last-none last [] place e = cc
last-none last (proved ∷ all) place e = last-none proved all place e

none-last : (all : List Proved) (place : ℕ) → last_from None all ≡ Err place → (all ≡ []) × (place ≡ 0)
none-last [] place e = (refl, cc)
none-last (proved ∷ all) place e = absurd (last-none proved all place e)

-- where a place is named there are no steps and it is 0, or it is that of a step
pub place-steps_result : (p : Premises) (steps : List Step) (place : ℕ) → steps_result p steps ≡ Err place → ((steps ≡ []) × (place ≡ 0))
    ⊎ (place < length steps)
place-steps_result p steps place e = by (proved_from p [] steps) (length-proved_from p [] steps) (place-proved_from p [] steps place) e
  where
    empty : (steps : List Step) → length steps ≡ 0 → steps ≡ []
    empty [] h = refl
    empty (step ∷ steps) h = absurd (omega arith)

    by : (r : Result (List Proved) ℕ) → ((all : List Proved) → r ≡ Ok all → length all ≡ 0 + length steps) → (r ≡ Err place → place < 0 + length steps)
        → last_proved r ≡ Err place
        → ((steps ≡ []) × (place ≡ 0)) ⊎ (place < length steps)
    by (Ok all) many named h = let (none, first) = none-last all place h in let same = ap length none in
        inl (empty steps (omega (arith, many all refl, same)), first)
    by (Err other) many named h = let below = named (cc) in inr (omega arith)
