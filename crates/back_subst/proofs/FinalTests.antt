use Rattle.std.proofs.Common.{◌≡◌, ◌≢◌, ℕ, zero, suc, ◌+◌, ◌<◌, Bool, true, List, [], ◌∷◌, Some, get_or, length, slice_get, nat_lt, false, refl, sym}
use Rattle.std.proofs.Common.{ap, ◌∙◌, subst, arith}
use Rattle.std.specs.List.{AllByRecursion}
use Rattle.std.proofs.lemmas.Bool.Decides.{nat_tests}
use Rattle.edit_model.specs.Parts.{SurveyParts}
use Rattle.edit_model.specs.Points.{Holds, Point}
use Rattle.edit_model.specs.Rows.{IsRow, value_of}
use Rattle.edit_model.specs.Surveys.{IsRule}
use Rattle.edit_model.specs.Trials.{AgreesOnTest, AgreesOnRule, CanTry, HasValues, rule_at}
use Rattle.edit_model.specs.declared.rule.Rule.{Rule}
use Rattle.edit_model.specs.declared.rule.Test.{Test}
use Rattle.edit_model.specs.declared.rule.Test.TheVariants as test
use Rattle.edit_model.specs.declared.value.Value.{Value}
use Rattle.edit_model.specs.declared.value.Value.TheVariants.{Bad}
use Rattle.edit_model.proofs.TrialCallers.{can_try}
use Rattle.edit_model.proofs.TrialLaws.{rule_at-holds}
use Rattle.back_subst.specs.Allowed.{Completes}
use Rattle.back_subst.proofs.FieldPoints.{agrees-held}

-- The final test at a record that some correction has all values of.

pub get-there : (rules : List Rule) (i : ℕ) (rule : Rule) → i < length rules → rule ≡ get_or rules i rule → slice_get rules i ≡ Some rule
get-there [] i rule below is = absurd (omega arith)
get-there (r ∷ rules) zero rule below is = ap Some (sym is)
get-there (r ∷ rules) (suc i) rule below is = get-there rules i rule (omega arith) is

one-of : (P : Rule → Type 0) (rules : List Rule) (k : ℕ) (rule : Rule) → AllByRecursion P rules → slice_get rules k ≡ Some rule → P rule
one-of P [] k rule all there = absurd (cc)
one-of P (r ∷ rules) zero rule all there = let same : r ≡ rule = cc in subst P same all.0
one-of P (r ∷ rules) (suc k) rule all there = one-of P rules k rule all.1 there

module _ (survey : SurveyParts) (row : List Value) (is_row : IsRow survey.fields row) (p : Point) (completes : Completes survey row [] p) where
  held : (f : ℕ) → f < length row → value_of row f ≢ Bad
  held f below = agrees-held row p f (completes.agrees f below refl)

  pub can-try : (rule : Rule) → IsRule survey.fields rule → CanTry row rule
  can-try rule fits = can_try survey.fields row is_row held rule fits

  agrees-on : (t : Test) → HasValues row t → AgreesOnTest row p t
  agrees-on (test.Number linear) has = λ k d below. completes.agrees _ (has k d below).0 refl
  agrees-on (test.Codes field negated set) has = completes.agrees field has.0 refl

  -- a rule that can be tried holds
  pub tried : (rule : Rule) (i : ℕ) (b : Bool) → slice_get survey.rules i ≡ Some rule → CanTry row rule → rule_at rule row ≡ Some b
      → rule_at rule row ≡ Some true
  tried rule i b there can e =
      let agrees : AgreesOnRule row p rule = record {
        conditions = λ k d below. agrees-on _ (can.conditions k d below);
        conclusion = agrees-on _
            can.conclusion;
      } in
      e ∙ ap Some (rule_at-holds rule row p b can agrees e ∙ one-of (λ r. Holds r p) survey.rules i rule completes.correction.rules there)

-- a rule that is there stands before the end
pub rule-below : (rules : List Rule) (k : ℕ) (rule : Rule) → slice_get rules k ≡ Some rule → k < length rules
rule-below [] k rule there = absurd (cc)
rule-below (r ∷ rules) zero rule there = omega arith
rule-below (r ∷ rules) (suc k) rule there = let rest = rule-below rules k rule there in omega arith

-- one rule more holds
pub rules-more : (rules : List Rule) (row : List Value) (i : ℕ) (rule : Rule) → slice_get rules i ≡ Some rule → rule_at rule row ≡ Some true
    → ((k : ℕ) (earlier : Rule) → k < i → slice_get rules k ≡ Some earlier → rule_at earlier row ≡ Some true)
    → (k : ℕ) (earlier : Rule) → k < i + 1 → slice_get rules k ≡ Some earlier → rule_at earlier row ≡ Some true
rules-more rules row i rule there holds before k earlier below found = by (nat_lt k i) refl
  where
    by : (b : Bool) → nat_lt k i ≡ b → rule_at earlier row ≡ Some true
    by true e = before k earlier (grind (arith, nat_tests)) found
    by false e =
        let same : k ≡ i = grind (arith, nat_tests) in
        let own : earlier ≡ rule = cc in ap (λ (r : Rule). rule_at r row) own ∙ holds
