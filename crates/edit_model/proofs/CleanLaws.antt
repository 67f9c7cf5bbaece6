use Rattle.std.proofs.Common.{◌≡◌, ◌≢◌, ℕ, suc, ◌<◌, Bool, true, false, not, List, [], ◌∷◌, length, get_or, All, Option, Some, None, slice_get, refl, sym, ap}
use Rattle.std.proofs.Common.{◌∙◌, arith}
use Rattle.std.specs.List.{AllByRecursion, list_all, list_any}
use Rattle.std.proofs.lemmas.Bool.{and_parts}
use Rattle.std.proofs.lemmas.List.Folds.{list_any_at}
use Rattle.std.specs.Option.{unwrap_or}
use Rattle.edit_model.specs.CleanRecords.{holds_at, is_clean}
use Rattle.edit_model.specs.Parts.{SurveyParts}
use Rattle.edit_model.specs.Rows.{IsRow, is_bad, value_of}
use Rattle.edit_model.specs.Surveys.{IsRule}
use Rattle.edit_model.specs.Trials.{CanTry, rule_at}
use Rattle.edit_model.specs.declared.field.Field.{Field}
use Rattle.edit_model.specs.declared.rule.Rule.{Rule}
use Rattle.edit_model.specs.declared.value.Value.{Value}
use Rattle.edit_model.specs.declared.value.Value.TheVariants.{Bad, Code, Number}
use Rattle.edit_model.proofs.TrialCallers.{can_try}

-- Clean records.

-- where no value is Bad, that of no field is
pub none-bad : (row : List Value) (f : ℕ) → list_any is_bad row ≡ false → f < length row → value_of row f ≢ Bad
none-bad row f none below bad = cc (sym none ∙ list_any_at is_bad row f Bad below (ap is_bad bad))

-- and the other way round
pub bad-none : (row : List Value) → ((f : ℕ) → f < length row → value_of row f ≢ Bad) → list_any is_bad row ≡ false
bad-none [] held = refl
bad-none (Bad ∷ row) held = absurd (held 0 (omega arith) refl)
bad-none (Code c ∷ row) held = bad-none row (λ f below. held (suc f) (omega arith))
bad-none (Number x ∷ row) held = bad-none row (λ f below. held (suc f) (omega arith))

-- the rules of a survey can be tried at a record of it without Bad fields
pub can_try-all : (fields : List Field) (row : List Value) (rules : List Rule) → IsRow fields row → list_any is_bad row ≡ false → All (IsRule fields) rules
    → All (CanTry row) rules
can_try-all fields row rules is none fit k d below = can_try fields row is (λ f within. none-bad row f none within) (get_or rules k d) (fit k d below)

not-none : (b : Bool) → not b ≡ true → b ≡ false
not-none false is = refl
not-none true is = absurd (cc)

-- the answer is a yes
yes-some : (o : Option Bool) → (unwrap_or o false) ≡ true → o ≡ Some true
yes-some None is = absurd (cc)
yes-some (Some b) is = ap Some is

-- ---- what a clean record has

module _ (survey : SurveyParts) (row : List Value) where
  clean-none : is_clean survey row ≡ true → list_any is_bad row ≡ false
  clean-none clean = not-none (list_any is_bad row) (and_parts (not (list_any is_bad row)) (list_all (holds_at row) survey.rules) clean).0

  -- each field has a value
  pub clean-held : is_clean survey row ≡ true → (f : ℕ) → f < length row → value_of row f ≢ Bad
  clean-held clean f below = none-bad row f (clean-none clean) below

  all-hold : (rules : List Rule) → list_all (holds_at row) rules ≡ true → AllByRecursion (λ (rule : Rule). rule_at rule row ≡ Some true) rules
  all-hold [] all = tt
  all-hold (rule ∷ rules) all =
      let both = and_parts (holds_at row rule) (list_all (holds_at row) rules) all in (yes-some (rule_at rule row) both.0, all-hold rules both.1)

  -- every rule holds
  pub clean-holds : is_clean survey row ≡ true → AllByRecursion (λ (rule : Rule). rule_at rule row ≡ Some true) survey.rules
  clean-holds clean = all-hold survey.rules (and_parts (not (list_any is_bad row)) (list_all (holds_at row) survey.rules) clean).1

  hold-all : (rules : List Rule) → ((k : ℕ) (rule : Rule) → slice_get rules k ≡ Some rule → rule_at rule row ≡ Some true) → list_all (holds_at row) rules ≡ true
  hold-all [] each = refl
  hold-all (rule ∷ rules) each = rw (each 0 rule refl) (hold-all rules (λ k r at. each (suc k) r at))

  -- such a record is clean
  pub held-clean : ((f : ℕ) → f < length row → value_of row f ≢ Bad) → ((k : ℕ) (rule : Rule) → slice_get survey.rules k ≡ Some rule → rule_at rule row
      ≡ Some true) → is_clean survey row ≡ true
  held-clean held each = rw (bad-none row held) (hold-all survey.rules each)
