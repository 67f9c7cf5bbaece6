use Rattle.std.proofs.Common.{◌≡◌, ℕ, ℤ, pos, negsuc, List, [], ◌∷◌, Ok, Err, refl}
use Rattle.fraction128.specs.Divisor.{gcd}
use Rattle.edit_line.specs.Divisors.{reduced}
use Rattle.edit_line.specs.Lines.{LineParts, parts_of}
use Rattle.edit_line.specs.Shapes.{Categorical, Numerical}
use Rattle.edit_line.specs.declared.derived.Origin.TheVariants.{Pair, Same}
use Rattle.edit_line.specs.declared.relation.Relation.TheVariants.{Above, AtLeast, Equal}
use Rattle.edit_line.specs.declared.place.Place.TheVariants.{Field}
use Rattle.linear_elim.specs.Combinations.{first_multiplier, second_multiplier}
use Rattle.linear_elim.specs.Systems.{system_count, system_of}

-- The derived systems of small edits, computed from the definitions.

-- ---- Turnover, Costs and Profit

abbrev trade_line : ℤ → ℤ → ℤ → LineParts
trade_line turnover costs profit = parts_of (Numerical ∷ Numerical ∷ Numerical ∷ []) [] (turnover ∷ costs ∷ profit ∷ []) (pos 0) AtLeast

-- Turnover >= 0, Costs >= 0, Turnover - Costs - Profit >= 0 and <= 0, 3 Turnover - 5 Profit >= 0
abbrev trade_edits : List (ℕ × LineParts)
trade_edits =
    (1, trade_line (pos 1) (pos 0) (pos 0))
    ∷ (2, trade_line (pos 0) (pos 1) (pos 0))
    ∷ (3, trade_line (pos 1) (negsuc 0) (negsuc 0))
    ∷ (4, trade_line (negsuc 0) (pos 1) (pos 1))
    ∷ (5, trade_line (pos 3) (pos 0) (negsuc 4))
    ∷ []

-- without Costs: Turnover >= 0, 3 Turnover - 5 Profit >= 0, and Turnover - Profit >= 0 of the second and the third
costs_eliminated : system_of trade_edits (1 ∷ [])
    ≡ Ok (record { line = trade_line (pos 1) (pos 0) (pos 0); origin = Same 0 } ∷ record { line = trade_line (pos 3) (pos 0) (negsuc 4); origin = Same 4 }
    ∷ record { line = trade_line (pos 1) (pos 0) (negsuc 0); origin = Pair 1 (pos 1) 2 (pos 1) (pos 1) } ∷ [])
unfolding first_multiplier second_multiplier gcd reduced
costs_eliminated = refl

costs_count : system_count trade_edits (1 ∷ []) ≡ 2
unfolding first_multiplier second_multiplier gcd reduced
costs_count = refl

-- without Costs and Profit: Turnover >= 0
both_eliminated : system_of trade_edits (1 ∷ 2 ∷ []) ≡ Ok (record { line = trade_line (pos 1) (pos 0) (pos 0); origin = Same 0 } ∷ [])
unfolding first_multiplier second_multiplier gcd reduced
both_eliminated = refl

both_count : system_count trade_edits (1 ∷ 2 ∷ []) ≡ 2
unfolding first_multiplier second_multiplier gcd reduced
both_count = refl

-- ---- the same edits, with the balance as one line

abbrev balance_edits : List (ℕ × LineParts)
balance_edits =
    (1, trade_line (pos 1) (pos 0) (pos 0))
    ∷ (2, trade_line (pos 0) (pos 1) (pos 0))
    ∷ (3, parts_of (Numerical ∷ Numerical ∷ Numerical ∷ []) [] (pos 1 ∷ negsuc 0 ∷ negsuc 0 ∷ []) (pos 0) Equal)
    ∷ (4, trade_line (pos 3) (pos 0) (negsuc 4))
    ∷ []

-- without Costs: the balance is substituted into Costs >= 0
costs_substituted : system_of balance_edits (1 ∷ [])
    ≡ Ok (record { line = trade_line (pos 1) (pos 0) (pos 0); origin = Same 0 } ∷ record { line = trade_line (pos 3) (pos 0) (negsuc 4); origin = Same 3 }
    ∷ record { line = trade_line (pos 1) (pos 0) (negsuc 0); origin = Pair 2 (pos 1) 1 (pos 1) (pos 1) } ∷ [])
unfolding first_multiplier second_multiplier gcd reduced
costs_substituted = refl

substituted_count_is : system_count balance_edits (1 ∷ []) ≡ 1
unfolding first_multiplier second_multiplier gcd reduced
substituted_count_is = refl

-- ---- A + B - 10 = 0 and A - B - 4 = 0

abbrev pair_edits : List (ℕ × LineParts)
pair_edits =
    (1, parts_of (Numerical ∷ Numerical ∷ []) [] (pos 1 ∷ pos 1 ∷ []) (negsuc 9) Equal)
    ∷ (2, parts_of (Numerical ∷ Numerical ∷ []) [] (pos 1 ∷ negsuc 0 ∷ []) (negsuc 3) Equal) ∷ []

-- without A: -B + 3 = 0
pair_substituted : system_of pair_edits (0 ∷ []) ≡ Ok
    (record { line = parts_of (Numerical ∷ Numerical ∷ []) [] (pos 0 ∷ negsuc 0 ∷ []) (pos 3) Equal; origin = Pair 0 (negsuc 0) 1 (pos 1) (pos 2) } ∷ [])
unfolding first_multiplier second_multiplier gcd reduced
pair_substituted = refl

pair_count : system_count pair_edits (0 ∷ []) ≡ 1
unfolding first_multiplier second_multiplier gcd reduced
pair_count = refl

-- ---- a chain of six fields whose factors grow past the range

abbrev chain_line : List ℤ → LineParts
chain_line factors = parts_of (Numerical ∷ Numerical ∷ Numerical ∷ Numerical ∷ Numerical ∷ Numerical ∷ []) [] factors (pos 0) AtLeast

abbrev chain_edits : List (ℕ × LineParts)
chain_edits =
    (1, chain_line (pos 999999999 ∷ negsuc 999999999 ∷ pos 0 ∷ pos 0 ∷ pos 0 ∷ pos 0 ∷ []))
    ∷ (2, chain_line (pos 0 ∷ pos 999999999 ∷ negsuc 999999999 ∷ pos 0 ∷ pos 0 ∷ pos 0 ∷ []))
    ∷ (3, chain_line (pos 0 ∷ pos 0 ∷ pos 999999999 ∷ negsuc 999999999 ∷ pos 0 ∷ pos 0 ∷ []))
    ∷ (4, chain_line (pos 0 ∷ pos 0 ∷ pos 0 ∷ pos 999999999 ∷ negsuc 999999999 ∷ pos 0 ∷ []))
    ∷ (5, chain_line (pos 0 ∷ pos 0 ∷ pos 0 ∷ pos 0 ∷ pos 999999999 ∷ negsuc 999999999 ∷ []))
    ∷ []

chain_overflows : system_of chain_edits (1 ∷ 2 ∷ 3 ∷ 4 ∷ []) ≡ Err (record { field = 4; step = record { first = 0; second = 1; place = Field 0 } })
unfolding first_multiplier second_multiplier gcd reduced
chain_overflows = refl

-- ---- A > 0 and -A >= 0

abbrev sign_edits : List (ℕ × LineParts)
sign_edits = (1, parts_of (Numerical ∷ []) [] (pos 1 ∷ []) (pos 0) Above) ∷ (2, parts_of (Numerical ∷ []) [] (negsuc 0 ∷ []) (pos 0) AtLeast) ∷ []

-- 0 > 0 is left, which never holds
strictness_stays : system_of sign_edits (0 ∷ []) ≡ Ok
    (record { line = parts_of (Numerical ∷ []) [] (pos 0 ∷ []) (pos 0) Above; origin = Pair 0 (pos 1) 1 (pos 1) (pos 1) } ∷ [])
unfolding first_multiplier second_multiplier gcd reduced
strictness_stays = refl

-- ---- IF C = 0 THEN A > 0, and IF C = 1 THEN -A >= 0

abbrev disjoint_edits : List (ℕ × LineParts)
disjoint_edits =
    (1, parts_of (Categorical 2 ∷ Numerical ∷ []) (1 ∷ []) (pos 1 ∷ []) (pos 0) Above)
    ∷ (2, parts_of (Categorical 2 ∷ Numerical ∷ []) (2 ∷ []) (negsuc 0 ∷ []) (pos 0) AtLeast) ∷ []

-- nothing is left, since no code is in both sets
disjoint_apart : system_of disjoint_edits (1 ∷ []) ≡ Ok []
unfolding first_multiplier second_multiplier gcd reduced
disjoint_apart = refl
