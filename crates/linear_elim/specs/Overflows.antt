use Rattle.std.specs.Prelude.{◌≡◌, ℕ, ◌<◌, ◌==◌, ◌&&◌, Bool, true, false, List, ◌∷◌, ◌++◌, Option, Some, None, IfSome, Ok, get_or}
use Rattle.std.specs.Prelude.{length, pos, slice_get, ℤ}
use Rattle.edit_line.specs.Lines.{LineParts}
use Rattle.edit_line.specs.EditSets.{EditsParts, base_lines}
use Rattle.edit_line.specs.Reductions.{reduce_derived}
use Rattle.edit_line.specs.Places.{place_named}
use Rattle.edit_line.specs.Shapes.{number_fields}
use Rattle.edit_line.specs.declared.derived.Derived.{Derived}
use Rattle.edit_line.specs.Combinations.{first_overflow, numbers, sum_fits}
use Rattle.linear_elim.specs.Combinations.{first_multiplier, is_lower, second_multiplier}
use Rattle.linear_elim.specs.Steps.{StepOverflow, equality_from, is_opposite, substitutes}
use Rattle.linear_elim.specs.Systems.{SystemOverflow, chosen_fields, fold_result}
use Rattle.linear_elim.specs.Told.{told_system}
use Rattle.linear_elim.specs.declared.fault.SystemFault.{SystemFault}

-- whether s, at place i, is combined with t, at place j: the first equality with the field is, with each other line that has it;
-- where there is none, two opposite lines are
abbrev pub combines : Option (ℕ × Derived) → ℕ → ℕ → LineParts → ℕ → LineParts → Bool
combines (Some e) f i s j t = (e.0 == i) && substitutes f i j t
combines None f i s j t = is_lower f s && is_opposite f s t

-- of the lines, s, at place i, and t, at place j, are combined at the field
abbrev pub AreCombined : List Derived → ℕ → ℕ → LineParts → ℕ → LineParts → Type 0
AreCombined lines f i s j t = combines (equality_from f 0 lines) f i s j t ≡ true

-- the first place at which a number of the combination of s and t leaves the range
abbrev pub overflow_of : LineParts → LineParts → ℕ → Option ℕ
overflow_of s t f = first_overflow 0 (first_multiplier s t f) (second_multiplier s t f) (numbers s) (numbers t)

-- no number leaves the range in the combination of these two lines of the list
abbrev pub PairFits : List Derived → ℕ → ℕ → ℕ → Type 0
PairFits lines f i j = (s t : Derived) → slice_get lines i ≡ Some s → slice_get lines j ≡ Some t
    → AreCombined lines f i s.line j t.line → overflow_of s.line t.line f ≡ None

-- no number of any combination leaves the range
abbrev pub AllPairsFit : List Derived → ℕ → Type 0
AllPairsFit lines f = (i j : ℕ) → PairFits lines f i j

-- the number at this place of the combination leaves the range, and no earlier one does
pub record IsFirstPlace (m n : ℤ) (first second : List ℤ) (place : ℕ) : Type 0 where
  pub here : sum_fits m n (get_or first place (pos 0)) (get_or second place (pos 0)) ≡ false
  pub within : place < length first
  pub earlier : (k : ℕ) → k < place → sum_fits m n (get_or first k (pos 0)) (get_or second k (pos 0)) ≡ true

-- the overflow is at the first pair of lines whose combination leaves the range, and at the first place there
pub record IsFirstOverflow (lines : List Derived) (f : ℕ) (o : StepOverflow) : Type 0 where
  pub s : Derived
  pub t : Derived
  pub first : slice_get lines o.first ≡ Some s
  pub second : slice_get lines o.second ≡ Some t
  pub combined : AreCombined lines f o.first s.line o.second t.line
  pub number : ℕ
  pub leaves : overflow_of s.line t.line f ≡ Some number
  pub first_place : IsFirstPlace
      (first_multiplier s.line t.line f) (second_multiplier s.line t.line f) (numbers s.line) (numbers t.line) number
  pub place : o.place ≡ place_named (number_fields s.line.shape) number
  pub earlier_rows : (i j : ℕ) → i < o.first → PairFits lines f i j
  pub earlier_pairs : (j : ℕ) → j < o.second → PairFits lines f o.first j

-- the fold over the fields stopped at one of them, where the step from the lines so far overflowed
pub record IsFoldOverflow (lines : List Derived) (fields : List ℕ) (o : SystemOverflow) : Type 0 where
  pub before : List ℕ
  pub after : List ℕ
  pub fields_are : fields ≡ before ++ o.field ∷ after
  pub reached : List Derived
  pub reached_are : fold_result lines before ≡ Ok reached
  pub overflow : IsFirstOverflow reached o.field o.step

-- the fault tells the first overflow of the system of the edits without the fields of the set; want of memory tells nothing
abbrev pub TellsOverflow : EditsParts → ℕ → SystemFault → Type 0
TellsOverflow edits fields fault = IfSome (told_system fault) (λ o. IsFoldOverflow
    (reduce_derived (base_lines edits.lines)) (chosen_fields edits.shape fields) o)
