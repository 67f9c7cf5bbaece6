use Rattle.std.specs.Prelude.{ℕ, ◌^◌, Bool, true, false, List, [], ◌∷◌, Option, Some, None, codes, bytes_eq, option_map, if◌then◌else◌}
use Rattle.bench_frame.specs.Numbers.{number_in}
use Rattle.certificate_bench.specs.declared.certificate.Plan.{Plan}

-- the plan of these parts
abbrev pub plan_with : ℕ → ℕ → Bool → Plan
plan_with depth steps broken = record { depth = depth; steps = steps; broken = broken }

-- what the verb and its number ask for: the leaves of a depth to 20 with a step each, or one leaf with 1 to 10^7 steps
abbrev pub plan_of : List ℕ → List ℕ → Bool → Option Plan
plan_of verb count broken =
    if bytes_eq verb (codes "leaves")
    then option_map (λ depth. plan_with depth 1 broken) (number_in count 0 20)
    else if bytes_eq verb (codes "steps") then option_map (λ steps. plan_with 0 steps broken) (number_in count 1 (10 ^ 7)) else None

-- what the words `leaves DEPTH` or `steps COUNT` ask for, with `broken` behind them for a broken certificate
abbrev pub plan_in : List (List ℕ) → Option Plan
plan_in (verb ∷ count ∷ []) = plan_of verb count false
plan_in (verb ∷ count ∷ kind ∷ []) = if bytes_eq kind (codes "broken") then plan_of verb count true else None
plan_in _ = None
