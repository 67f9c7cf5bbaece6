use Rattle.std.specs.Prelude.{◌≡◌, ◌⊎◌, ◌<◌, ℕ, ◌++◌, true, false, List, [], ◌∷◌, Option, Some, None, Result, Ok, Err, reverse, slice_get}
use Rattle.fraction128.specs.Formulas.{Ratio, ratio_of}
use Rattle.fraction128.specs.declared.fraction.Fraction.{Fraction}
use Rattle.edit_model.specs.FieldSets.{has_number}
use Rattle.edit_model.specs.Parts.{SurveyParts}
use Rattle.edit_model.specs.Rows.{IsRow, value_of}
use Rattle.edit_model.specs.Trials.{rule_at}
use Rattle.edit_model.specs.declared.rule.Rule.{Rule}
use Rattle.edit_model.specs.declared.value.Value.{Value}
use Rattle.edit_model.specs.declared.value.Value.TheVariants.{Number}
use Rattle.edit_line.specs.EditSets.{EditsParts}
use Rattle.edit_line.specs.Reductions.{lines_of}
use Rattle.edit_line.specs.declared.derived.Derived.{Derived}
use Rattle.linear_elim.specs.Systems.{system_of}
use Rattle.back_subst.specs.Given.{IsGiven, IsImputed, giving_order, number_in, target_of}
use Rattle.back_subst.specs.NumberWalk.{number_result}
use Rattle.back_subst.specs.declared.gift.GiveFault.{GiveFault}
use Rattle.back_subst.specs.declared.gift.GiveFault.TheVariants.{Bound, OutOfMemory, Test}

-- the first fields of an order are given values, where the others are left
abbrev pub AreGivenFirst : SurveyParts → (ℕ → Value) → List Value → List ℕ → List ℕ → Type 0
AreGivenFirst survey target row [] left = Unit {0}
AreGivenFirst survey target row (f ∷ fields) left =
    IsGiven survey row (f ∷ (fields ++ left)) f (target f) (value_of row f)
    × AreGivenFirst survey target row fields left

-- what the formulas give a numerical field of the record, where others are left after it, by the system of the edits
-- without these: a number, or the place of the first line at which one leaves the range
abbrev pub IsComputed : EditsParts → (ℕ → Value) → List Value → ℕ → List ℕ → Result Ratio ℕ → Type 0
IsComputed edits target row f left told =
    (lines : List Derived) × (system_of edits.lines (reverse left) ≡ Ok lines)
    × (number_result (lines_of lines) row f (number_in (target f)) ≡ told)

-- the record's number at a field, if it has one, is what the formulas give
abbrev pub HasComputed : EditsParts → (ℕ → Value) → List Value → ℕ → List ℕ → Type 0
HasComputed edits target row f left = (x : Fraction) → value_of row f ≡ Number x → IsComputed edits target row f left (Ok (ratio_of x))

-- each number at the first fields of an order, where the others are left, is what the formulas give
abbrev pub AreComputed : EditsParts → (ℕ → Value) → List Value → List ℕ → List ℕ → Type 0
AreComputed edits target row [] left = Unit {0}
AreComputed edits target row (f ∷ fields) left =
    HasComputed edits target row f (fields ++ left) × AreComputed edits target row fields left

-- each number at the changed fields is what the formulas give
abbrev pub AreAllComputed : SurveyParts → EditsParts → ℕ → Option (List Value) → List Value → Type 0
AreAllComputed survey edits changed donor new = AreComputed edits (target_of donor) new (giving_order survey.fields changed) []

-- the giving stopped at a numerical field, at a line of the system of the edits without those that are left after it: the
-- values before were given, by formulas in range, and a number of the field's leaves the range first there
pub record StopsAtLine (survey : SurveyParts) (edits : EditsParts) (row : List Value) (changed : ℕ)
    (donor : Option (List Value)) (field line : ℕ) : Type 0 where
  pub given : List ℕ
  pub left : List ℕ
  pub order : giving_order survey.fields changed ≡ given ++ field ∷ left
  pub so_far : List Value
  pub fits : IsRow survey.fields so_far
  pub keeps : (f : ℕ) → has_number changed f ≡ false → value_of so_far f ≡ value_of row f
  pub first : AreGivenFirst survey (target_of donor) so_far given (field ∷ left)
  pub computed : AreComputed edits (target_of donor) so_far given (field ∷ left)
  pub stops : IsComputed edits (target_of donor) so_far field left (Err line)

-- the rule is the first of which the final test at the record leaves the range; those before it hold
pub record IsFirstOut (survey : SurveyParts) (row : List Value) (rule : ℕ) : Type 0 where
  pub tested : Rule
  pub there : slice_get survey.rules rule ≡ Some tested
  pub out : rule_at tested row ≡ None
  pub before : (k : ℕ) (earlier : Rule) → k < rule → slice_get survey.rules k ≡ Some earlier → rule_at earlier row ≡ Some true

-- each rule holds at the record, and no number of its sums leaves the range
abbrev pub AllHoldAt : SurveyParts → List Value → Type 0
AllHoldAt survey row = (k : ℕ) (rule : Rule) → slice_get survey.rules k ≡ Some rule → rule_at rule row ≡ Some true

-- all values were given, by formulas in range, and the final test leaves the range at the rule
pub record StopsAtRule (survey : SurveyParts) (edits : EditsParts) (row : List Value) (changed : ℕ)
    (donor : Option (List Value)) (rule : ℕ) : Type 0 where
  pub new : List Value
  pub imputed : IsImputed survey row changed donor new
  pub computed : AreAllComputed survey edits changed donor new
  pub first : IsFirstOut survey new rule

-- the formulas show the fault: the giving stops there
abbrev pub StopsThere : SurveyParts → EditsParts → List Value → ℕ → Option (List Value) → GiveFault → Type 0
StopsThere survey edits row changed donor (Bound field line) = StopsAtLine survey edits row changed donor field line
StopsThere survey edits row changed donor (Test rule) = StopsAtRule survey edits row changed donor rule
StopsThere survey edits row changed donor OutOfMemory = ⊥

-- ---- answers

-- where the answer is `Bound`, this holds of its field and its line
abbrev pub OnBound : {A : Type 0} → Result A GiveFault → (ℕ → ℕ → Type 0) → Type 0
OnBound answer holds = (field line : ℕ) → answer ≡ Err (Bound field line) → holds field line

-- where the answer is `Test`, this holds of its rule
abbrev pub OnTest : {A : Type 0} → Result A GiveFault → (ℕ → Type 0) → Type 0
OnTest answer holds = (rule : ℕ) → answer ≡ Err (Test rule) → holds rule

-- each fault that is shown is the answer, unless that is want of memory
abbrev pub IsDue : {A : Type 0} → Result A GiveFault → (GiveFault → Type 0) → Type 0
IsDue answer shown = (due : GiveFault) → shown due → (answer ≡ Err due) ⊎ (answer ≡ Err OutOfMemory)
