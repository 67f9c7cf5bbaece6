-- What the words ask for.
use Rattle.std.specs.Prelude.{◌≡◌, ℕ, ◌≤◌, List, [], ◌∷◌}
use Rattle.std.specs.Str.Parse.{IsNumeral, digits_value, without_leading_plus}
use Rattle.claims_bench.specs.declared.tally.Plan.{Plan}

-- the text spells the number, and may begin with a plus
abbrev pub IsNumber : List ℕ → ℕ → Type 0
IsNumber text number = IsNumeral 10 (without_leading_plus text) × (number ≡ digits_value 10 (without_leading_plus text))

-- the words are a count of tickets and one of threads; or there are none, which ask for 60 tickets and 4 threads
abbrev pub IsAsked : List (List ℕ) → Plan → Type 0
IsAsked [] plan = (plan.count ≡ 60) × (plan.threads ≡ 4)
IsAsked (count ∷ threads ∷ []) plan = IsNumber count plan.count × IsNumber threads plan.threads
IsAsked _ plan = ⊥

-- a plan that is carried out: of 10^7 tickets at most, by 1 to 64 threads
abbrev pub IsServed : Plan → Type 0
IsServed plan = (plan.count ≤ 10000000) × (1 ≤ plan.threads) × (plan.threads ≤ 64)
