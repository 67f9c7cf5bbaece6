use Rattle.std.proofs.Common.{Bool, List, [], arith, codes, false, lit<, negsuc, pos, refl, true, ℕ, ℤ, ◌<◌, ◌^◌, ◌∷◌, ◌≡◌}
use Rattle.std.proofs.lemmas.Int.{ints}
use Rattle.fraction128.specs.Divisor.{gcd}
use Rattle.fraction128.proofs.DivisorLaws.{IsGcd-one}
use Rattle.edit_model.specs.declared.field.Field.{Field}
use Rattle.edit_model.specs.declared.value.Value.{Value}
use Rattle.edit_model.specs.declared.value.Value.TheVariants.{Bad, Code, Number}
use Rattle.edit_line.specs.Divisors.{reduced}
use Rattle.edit_model.specs.Parts as parts
use Rattle.edit_line.specs.declared.relation.Relation.TheVariants.{AtLeast, Equal}
use Rattle.edit_line.specs.Lines.{LineParts, parts_of}
use Rattle.edit_line.specs.Shapes.{Categorical, Numerical}
use Rattle.linear_elim.specs.Combinations.{first_multiplier, second_multiplier}
use Rattle.derivation.specs.declared.step.Step.TheVariants.{Combine, Cover, Fail, Fix, Given}
use Rattle.edit_paths.specs.Cases.{SearchCase}
use Rattle.edit_paths.specs.Outcomes.{outcome_of, total_work}
use Rattle.bound_cert.specs.declared.cert.Leaf.{Leaf}
use Rattle.bound_cert.specs.declared.cert.LeafWhy.{LeafWhy}
use Rattle.edit_model.specs.declared.field.Kind.TheVariants as kind
use Rattle.edit_line.specs.declared.place.Place.TheVariants as place
use Rattle.bound_cert.specs.declared.outcome.Event.TheVariants as event
use Rattle.bound_cert.specs.declared.cert.LeafWhy.TheVariants as why
use Rattle.bound_cert.specs.declared.outcome.Outcome.TheVariants as outcome

-- The outcomes of small records, computed from the definitions.

abbrev number : (n : ℕ) → n < 2 ^ 127 → Value
number n below = Number (record {
  numerator = pos n;
  denominator = pos 1;
  positive = omega (arith, ints);
  numerator_in_range = below;
  denominator_in_range =
      lit< tt;
  reduced = IsGcd-one _;
})

abbrev number_field : ℕ → Field
number_field weight = record { name = codes "x"; weight = weight; kind = kind.Number 1 }

abbrev code_field : Field
code_field = record { name = codes "x"; weight = 1; kind = kind.Code (codes "a" ∷ codes "b" ∷ []) }

abbrev case_with : List Field → List (ℕ × LineParts) → List Value → SearchCase
case_with fields lines row = record { survey = parts.survey_of fields []; edits = lines; row = row }

abbrev kept : Bool
kept = false

abbrev changed : Bool
changed = true

-- ---- A + B = 10 and the record 3, 4

abbrev pair_line : ℤ → ℤ → ℤ → LineParts
pair_line a b constant = parts_of (Numerical ∷ Numerical ∷ []) [] (a ∷ b ∷ []) constant AtLeast

abbrev pair_case : SearchCase
pair_case = case_with (number_field 1 ∷ number_field 1 ∷ []) ((0, pair_line (pos 1) (pos 1) (negsuc 9)) ∷ (1, pair_line (negsuc 0) (negsuc 0) (pos 10)) ∷ [])
    (number 3 (lit< tt) ∷ number 4 (lit< tt) ∷ [])

pair_total : total_work pair_case ≡ 5
unfolding first_multiplier second_multiplier gcd reduced
pair_total = refl

abbrev leaf_of : List Bool → LeafWhy → Leaf
leaf_of path why = record { path = path; why = why }

pair_within : outcome_of pair_case 5 ≡ outcome.Change (kept ∷ changed ∷ []) 1 (record {
  leaves =
      leaf_of (kept ∷ kept ∷ []) (why.Line (Given 0 ∷ []))
      ∷ leaf_of (kept ∷ changed ∷ []) why.Bound
      ∷ leaf_of (changed ∷ []) why.Bound
      ∷ [];
})
unfolding first_multiplier second_multiplier gcd reduced
pair_within = refl

pair_past : outcome_of pair_case 4 ≡ outcome.Budget (kept ∷ changed ∷ []) 3
unfolding first_multiplier second_multiplier gcd reduced
pair_past = refl

-- ---- the same, as one equality

abbrev balance_line : ℤ → ℤ → ℤ → LineParts
balance_line a b constant = parts_of (Numerical ∷ Numerical ∷ []) [] (a ∷ b ∷ []) constant Equal

abbrev balance_case : SearchCase
balance_case = case_with (number_field 1 ∷ number_field 1 ∷ []) ((0, balance_line (pos 1) (pos 1) (negsuc 9)) ∷ [])
    (number 3 (lit< tt) ∷ number 4 (lit< tt) ∷ [])

balance_total : total_work balance_case ≡ 4
unfolding first_multiplier second_multiplier gcd reduced
balance_total = refl

balance_within : outcome_of balance_case 4 ≡ outcome.Change (kept ∷ changed ∷ []) 1 (record {
  leaves =
      leaf_of (kept ∷ kept ∷ []) (why.Line (Given 0 ∷ []))
      ∷ leaf_of (kept ∷ changed ∷ []) why.Bound
      ∷ leaf_of (changed ∷ []) why.Bound
      ∷ [];
})
unfolding first_multiplier second_multiplier gcd reduced
balance_within = refl

balance_past : outcome_of balance_case 3 ≡ outcome.Budget (kept ∷ changed ∷ []) 3
unfolding first_multiplier second_multiplier gcd reduced
balance_past = refl

-- ---- A + B = 10 and A - B = 4, and the record 1, 1

abbrev two_case : SearchCase
two_case =
    case_with (number_field 1 ∷ number_field 1 ∷ []) ((0, balance_line (pos 1) (pos 1) (negsuc 9)) ∷ (1, balance_line (pos 1) (negsuc 0) (negsuc 3)) ∷ [])
    (number 1 (lit< tt) ∷ number 1 (lit< tt) ∷ [])

two_total : total_work two_case ≡ 9
unfolding first_multiplier second_multiplier gcd reduced
two_total = refl

-- ---- the trade survey and the record 100, 60, 400

abbrev trade_line : ℤ → ℤ → ℤ → LineParts
trade_line turnover costs profit = parts_of (Numerical ∷ Numerical ∷ Numerical ∷ []) [] (turnover ∷ costs ∷ profit ∷ []) (pos 0) AtLeast

abbrev trade_case : SearchCase
trade_case = case_with (number_field 2 ∷ number_field 1 ∷ number_field 1 ∷ [])
    ((0, trade_line (pos 1) (pos 0) (pos 0))
    ∷ (1, trade_line (pos 0) (pos 1) (pos 0))
    ∷ (2, trade_line (pos 1) (negsuc 0) (negsuc 0))
    ∷ (3, trade_line (negsuc 0) (pos 1) (pos 1))
    ∷ (4, trade_line (pos 3) (pos 0) (negsuc 4))
    ∷ []) (number 100 (lit< tt) ∷ number 60 (lit< tt) ∷ number 400 (lit< tt) ∷ [])

trade_within : outcome_of trade_case 7 ≡ outcome.Change (kept ∷ kept ∷ changed ∷ []) 1 (record {
  leaves =
      leaf_of (kept ∷ kept ∷ kept ∷ []) (why.Line (Given 2 ∷ []))
      ∷ leaf_of (kept ∷ kept ∷ changed ∷ []) why.Bound
      ∷ leaf_of (kept ∷ changed ∷ []) why.Bound
      ∷ leaf_of (changed ∷ []) why.Bound
      ∷ [];
})
unfolding first_multiplier second_multiplier gcd reduced
trade_within = refl

trade_past : outcome_of trade_case 6 ≡ outcome.Budget (kept ∷ kept ∷ changed ∷ []) 4
unfolding first_multiplier second_multiplier gcd reduced
trade_past = refl

-- ---- the household survey and the record child, married, spouse

abbrev household_line : List ℕ → LineParts
household_line sets = parts_of (Categorical 2 ∷ Categorical 2 ∷ Categorical 2 ∷ []) sets [] (negsuc 0) AtLeast

abbrev household_case : SearchCase
household_case = case_with (code_field ∷ code_field ∷ code_field ∷ []) ((0, household_line (1 ∷ 2 ∷ 3 ∷ [])) ∷ (1, household_line (3 ∷ 1 ∷ 1 ∷ [])) ∷ [])
    (Code 0 ∷ Code 1 ∷ Code 0 ∷ [])

household_total : total_work household_case ≡ 11
unfolding first_multiplier second_multiplier gcd reduced
household_total = refl

household_within : outcome_of household_case 11 ≡ outcome.Change (changed ∷ kept ∷ kept ∷ []) 1 (record {
  leaves =
      leaf_of (kept ∷ kept ∷ []) (why.Box (Given 0 ∷ Fail 0 ∷ Fix 0 1 ∷ Fix 1 2 ∷ []))
      ∷ leaf_of (kept ∷ changed ∷ kept ∷ []) (why.Box (Given 1 ∷ Fail 0 ∷ Given 0 ∷ Fail 2 ∷ Fix 0 3 ∷ Cover 1 (1 ∷ 4 ∷ []) ∷ Fix 2 5 ∷ []))
      ∷ leaf_of (kept ∷ changed ∷ changed ∷ []) why.Bound
      ∷ leaf_of (changed ∷ kept ∷ kept ∷ []) why.Bound
      ∷ leaf_of (changed ∷ kept ∷ changed ∷ []) why.Bound
      ∷ leaf_of (changed ∷ changed ∷ []) why.Bound
      ∷ [];
})
unfolding first_multiplier second_multiplier gcd reduced
household_within = refl

household_past : outcome_of household_case 10 ≡ outcome.Budget (changed ∷ kept ∷ kept ∷ []) 10
unfolding first_multiplier second_multiplier gcd reduced
household_past = refl

-- ---- A >= 5, A <= 3 and the record 4

abbrev one_line : ℤ → ℤ → LineParts
one_line a constant = parts_of (Numerical ∷ []) [] (a ∷ []) constant AtLeast

abbrev contrary_case : SearchCase
contrary_case = case_with (number_field 1 ∷ []) ((0, one_line (pos 1) (negsuc 4)) ∷ (1, one_line (negsuc 0) (pos 3)) ∷ []) (number 4 (lit< tt) ∷ [])

contrary : outcome_of contrary_case 1000 ≡ outcome.Contradictory (record {
  leaves =
      leaf_of (kept ∷ []) (why.Line (Given 0 ∷ []))
      ∷ leaf_of (changed ∷ []) (why.Line (Given 0 ∷ Given 1 ∷ Combine 0 (pos 1) 1 (pos 1) (pos 2) ∷ []))
      ∷ [];
})
unfolding first_multiplier second_multiplier gcd reduced
contrary = refl

-- ---- a chain of six fields whose factors grow past the range

abbrev chain_line : List ℤ → LineParts
chain_line factors = parts_of (Numerical ∷ Numerical ∷ Numerical ∷ Numerical ∷ Numerical ∷ Numerical ∷ []) [] factors (pos 0) AtLeast

abbrev chain_case : SearchCase
chain_case = case_with (number_field 1 ∷ number_field 1 ∷ number_field 1 ∷ number_field 1 ∷ number_field 1 ∷ number_field 1 ∷ [])
    ((0, chain_line (pos 999999999 ∷ negsuc 999999999 ∷ pos 0 ∷ pos 0 ∷ pos 0 ∷ pos 0 ∷ []))
    ∷ (1, chain_line (pos 0 ∷ pos 999999999 ∷ negsuc 999999999 ∷ pos 0 ∷ pos 0 ∷ pos 0 ∷ []))
    ∷ (2, chain_line (pos 0 ∷ pos 0 ∷ pos 999999999 ∷ negsuc 999999999 ∷ pos 0 ∷ pos 0 ∷ []))
    ∷ (3, chain_line (pos 0 ∷ pos 0 ∷ pos 0 ∷ pos 999999999 ∷ negsuc 999999999 ∷ pos 0 ∷ []))
    ∷ (4, chain_line (pos 0 ∷ pos 0 ∷ pos 0 ∷ pos 0 ∷ pos 999999999 ∷ negsuc 999999999 ∷ []))
    ∷ []) (number 1 (lit< tt) ∷ Bad ∷ Bad ∷ Bad ∷ Bad ∷ number 0 (lit< tt) ∷ [])

chain : outcome_of chain_case 1000000 ≡ outcome.Overflow (kept ∷ changed ∷ changed ∷ changed ∷ changed ∷ []) (event.Step 0 1 (place.Field 0))
unfolding first_multiplier second_multiplier gcd reduced
chain = refl
