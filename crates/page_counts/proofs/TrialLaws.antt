use Rattle.std.proofs.Common.{◌≡◌, ◌∙◌, ℕ, zero, suc, ◌<◌, Bool, true, false, List, [], ◌∷◌, length, refl, sym, arith}
use Rattle.std.specs.List.{list_all}
use Rattle.std.proofs.lemmas.Bool.{and_from, and_parts, false≢true}
use Rattle.std.proofs.lemmas.List.Elements.{All-weaker}
use Rattle.std.proofs.lemmas.List.Sums.{AllPass-from_list_all, list_all-from_AllPass}
use Rattle.edit_model.specs.Rows.{value_of}
use Rattle.edit_model.specs.Trials.{CanTry, HasValues, IsCodeValue, IsNumberValue}
use Rattle.edit_model.specs.declared.rule.Rule.{Rule}
use Rattle.edit_model.specs.declared.rule.Term.{Term}
use Rattle.edit_model.specs.declared.rule.Test.{Test}
use Rattle.edit_model.specs.declared.rule.Test.TheVariants as test
use Rattle.edit_model.specs.declared.value.Value.{Value}
use Rattle.edit_model.specs.declared.value.Value.TheVariants.{Bad, Code, Number}
use Rattle.page_counts.specs.Rules.{can_try, has_values, is_number, is_some_code}

-- A rule can be tried exactly where the test says so.

-- a value that is not Bad stands inside the record
within : (p : Value → Bool) → p Bad ≡ false → (row : List Value) (f : ℕ) → p (value_of row f) ≡ true → f < length row
within p none [] f is = absurd (false≢true (sym none ∙ is))
within p none (v ∷ row) zero is = omega arith
within p none (v ∷ row) (suc f) is = let inside = within p none row f is in omega arith

number_is : (v : Value) → is_number v ≡ true → IsNumberValue v
number_is (Number x) is = tt
number_is (Code c) is = absurd (false≢true is)
number_is Bad is = absurd (false≢true is)

is_number_there : (v : Value) → IsNumberValue v → is_number v ≡ true
is_number_there (Number x) is = refl
is_number_there (Code c) is = absurd is
is_number_there Bad is = absurd is

code_is : (v : Value) → is_some_code v ≡ true → IsCodeValue v
code_is (Code c) is = tt
code_is (Number x) is = absurd (false≢true is)
code_is Bad is = absurd (false≢true is)

is_code_there : (v : Value) → IsCodeValue v → is_some_code v ≡ true
is_code_there (Code c) is = refl
is_code_there (Number x) is = absurd is
is_code_there Bad is = absurd is

module _ (row : List Value) where
  has : (t : Test) → has_values row t ≡ true → HasValues row t
  has (test.Number linear) is =
      All-weaker (λ (t : Term). is_number (value_of row t.field) ≡ true) (λ (t : Term). (t.field < length row) × IsNumberValue (value_of row t.field))
      (λ t there. (within is_number refl row t.field there, number_is (value_of row t.field) there)) linear.terms
      (AllPass-from_list_all (λ (t : Term). is_number (value_of row t.field)) linear.terms is)
  has (test.Codes field negated set) is = (within is_some_code refl row field is, code_is (value_of row field) is)

  has_back : (t : Test) → HasValues row t → has_values row t ≡ true
  has_back (test.Number linear) there =
      list_all-from_AllPass (λ (t : Term). is_number (value_of row t.field)) linear.terms
      (All-weaker (λ (t : Term). (t.field < length row) × IsNumberValue (value_of row t.field)) (λ (t : Term). is_number (value_of row t.field) ≡ true)
      (λ t there. is_number_there (value_of row t.field) there.1) linear.terms there)
  has_back (test.Codes field negated set) there = is_code_there (value_of row field) there.1

  -- what the test says
  pub can_try-shows : (rule : Rule) → can_try row rule ≡ true → CanTry row rule
  can_try-shows rule is =
      let both = and_parts (list_all (has_values row) rule.conditions) (has_values row rule.conclusion) is in
      record {
        conditions = All-weaker (λ (t : Test). has_values row t ≡ true) (HasValues row) has rule.conditions (AllPass-from_list_all
            (has_values row) rule.conditions both.0);
        conclusion = has rule.conclusion both.1;
      }

  -- and the other way round
  pub can_try-shown : (rule : Rule) → CanTry row rule → can_try row rule ≡ true
  can_try-shown rule can =
      and_from (list_all (has_values row) rule.conditions) (has_values row rule.conclusion)
      (list_all-from_AllPass (has_values row) rule.conditions (All-weaker (HasValues row)
      (λ (t : Test). has_values row t ≡ true) has_back rule.conditions can.conditions))
      (has_back rule.conclusion can.conclusion)
