use Rattle.std.specs.Prelude.{◌≡◌, ◌<◌, All, ◌↔◌, ◌==◌, ◌++◌, ℕ, true, false, List, [], ◌∷◌, Option, Result, Ok, Err, reverse}
use Rattle.std.specs.List.{filter}
use Rattle.fraction128.specs.Formulas.{ratio_of}
use Rattle.fraction128.specs.declared.fraction.Fraction.{Fraction}
use Rattle.edit_model.specs.Corrections as corrections
use Rattle.edit_model.specs.FieldSets.{has_number}
use Rattle.edit_model.specs.declared.field.Field.{Field}
use Rattle.edit_model.specs.Parts.{SurveyParts}
use Rattle.edit_model.specs.Points.{Point}
use Rattle.edit_model.specs.Rows.{IsRow, value_of}
use Rattle.edit_model.specs.declared.value.Value.{Value}
use Rattle.edit_model.specs.declared.value.Value.TheVariants.{Bad, Number}
use Rattle.edit_line.specs.EditSets.{EditsParts}
use Rattle.edit_line.specs.Lines.{HaveShape, LineParts}
use Rattle.edit_line.specs.Shapes.{Domain, code_fields, has_field, shape_of}
use Rattle.linear_elim.specs.Systems.{system}
use Rattle.categ_combine.specs.FailingBoxes.{failing_boxes}
use Rattle.back_subst.specs.Allowed.{Completes}
use Rattle.back_subst.specs.GiveFaults.{AreGivenFirst}
use Rattle.back_subst.specs.Given.{IsGivenCode, giving_order, number_in, target_of}
use Rattle.back_subst.specs.NumberWalk.{number_result}
use Rattle.back_subst.specs.inner.Bounds.{DecideFor}
use Rattle.back_subst.specs.inner.Codes.{AreCountable, AreCountableBut, IsFree, boxes_for}
use Rattle.back_subst.specs.inner.Systems.{start_lines}
use Rattle.back_subst.specs.declared.gift.GiveFault.{GiveFault}
use Rattle.back_subst.specs.declared.gift.GiveFault.TheVariants.{Bound}

-- the record is Bad exactly at those categorical fields, other than g, that are left
abbrev pub AreBlankBut : List Domain → List Value → List ℕ → ℕ → Type 0
AreBlankBut shape row left g =
    (i : ℕ) → has_field (code_fields shape) i ≡ true → (i == g) ≡ false
    → (has_field left i ≡ true) ↔ (value_of row i ≡ Bad)

-- ---- the boxes after all categorical fields but g

-- the fields that are left can be settled, each with few enough pairs
abbrev pub CanSettle : List Domain → List Value → ℕ → List (List ℕ) → Type 0
CanSettle shape row g boxes = (left : List ℕ) × AreBlankBut shape row left g × AreCountableBut shape row left g boxes

-- the later boxes are what the others become
abbrev pub AreSettled : List Domain → List Value → ℕ → List (List ℕ) → List (List ℕ) → Type 0
AreSettled shape row g boxes later = (left : List ℕ) → AreBlankBut shape row left g → later ≡ boxes_for shape row left g boxes

-- no box has the code at g
abbrev pub IsFreeBut : List Domain → List Value → List ℕ → ℕ → List (List ℕ) → ℕ → Type 0
IsFreeBut shape row left g boxes code = IsFree shape (boxes_for shape row left g boxes) g code

-- the boxes of the lines that fail at the record can be settled, and leave some code of g free
abbrev pub HasFreeCode : List Domain → List LineParts → List Value → ℕ → Type 0
HasFreeCode shape lines row g =
    (left : List ℕ) × AreBlankBut shape row left g
    × (boxes : List (List ℕ)) × (failing_boxes lines row ≡ Ok boxes)
    × AreCountableBut shape row left g boxes
    × ((code : ℕ) × IsFreeBut shape row left g boxes code)

-- of the codes that they leave free, this one is given for the target
abbrev pub IsCodeFor : List Domain → List LineParts → List Value → ℕ → ℕ → ℕ → Type 0
IsCodeFor shape lines row g target code =
    (boxes : List (List ℕ)) × (failing_boxes lines row ≡ Ok boxes)
    × ((left : List ℕ) → AreBlankBut shape row left g → IsGivenCode (IsFreeBut shape row left g boxes) target code)

-- ---- values that are given

-- each field stands once in the list
abbrev pub AreDistinct : List ℕ → Type 0
AreDistinct [] = Unit {0}
AreDistinct (i ∷ fields) = (has_field fields i ≡ false) × AreDistinct fields

-- the changed fields of each kind in the order in which they are given values, the last first
pub record AreOrders (fields : List Field) (codes numbers : List ℕ) : Type 0 where
  pub changed : ℕ
  pub codes_small : All (λ f. f < 64) codes
  pub numbers_small : All (λ f. f < 64) numbers
  pub codes_are : codes ≡ reverse (filter (has_number changed) (corrections.code_fields fields))
  pub numbers_are : numbers ≡ reverse (filter (has_number changed) (corrections.number_fields fields))

-- values are being given: those at the first fields of an order are given, and the record is Bad at the others, which are
-- left; at all other fields it is as before
pub record IsUnderWay (survey : SurveyParts) (edits : List LineParts) (target : ℕ → Value) (row : List Value)
    (given left : List ℕ) (so_far : List Value) : Type 0 where
  pub is_row : IsRow survey.fields so_far
  pub keeps : (f : ℕ) → has_field (given ++ left) f ≡ false → value_of so_far f ≡ value_of row f
  pub blank : (f : ℕ) → has_field left f ≡ true → value_of so_far f ≡ Bad
  pub distinct : AreDistinct (given ++ left)
  pub first : AreGivenFirst survey target so_far given left
  pub decide : DecideFor survey edits so_far left
  pub point : Point
  pub completes : Completes survey so_far left point

-- values are being given by the reduced edits, from a donor's values
abbrev pub IsGiving : SurveyParts → EditsParts → Option (List Value) → List Value → List ℕ → List ℕ → List Value → Type 0
IsGiving survey edits donor row given left so_far =
    IsUnderWay survey (start_lines edits) (target_of donor) row given left so_far

-- values are being given to some record, and these fields are left
abbrev pub IsGivingSome : SurveyParts → EditsParts → Option (List Value) → List ℕ → List Value → Type 0
IsGivingSome survey edits donor left so_far =
    (row : List Value) × (given : List ℕ) × IsGiving survey edits donor row given left so_far

-- to whatever record values are being given, those at the fields of the order are given after it
abbrev pub GivesNext : SurveyParts → EditsParts → Option (List Value) → List ℕ → List Value → List Value → Type 0
GivesNext survey edits donor order so_far new =
    (row : List Value) (given : List ℕ) → IsGiving survey edits donor row given order so_far
    → IsGiving survey edits donor row (given ++ order) [] new

-- the values at all changed fields are given
abbrev pub IsAllGiven : SurveyParts → EditsParts → Option (List Value) → List Value → ℕ → List Value → Type 0
IsAllGiven survey edits donor row changed new = IsGiving survey edits donor row (giving_order survey.fields changed) [] new

-- the number at a field, if it has one, is what the system of the fields left after it gives
abbrev pub HasComputedBy : List LineParts → (ℕ → Value) → List Value → ℕ → List ℕ → Type 0
HasComputedBy edits target row f left =
    (x : Fraction) → value_of row f ≡ Number x
    → number_result (system edits (reverse left)) row f (number_in (target f)) ≡ Ok (ratio_of x)

-- each number at the first fields of an order, where the others are left, is what the system of these gives
abbrev pub AreComputedBy : List LineParts → (ℕ → Value) → List Value → List ℕ → List ℕ → Type 0
AreComputedBy edits target row [] left = Unit {0}
AreComputedBy edits target row (f ∷ fields) left =
    HasComputedBy edits target row f (fields ++ left) × AreComputedBy edits target row fields left

-- each number at the fields of an order is what the system of the reduced edits gives, from a donor's values
abbrev pub AreOrderComputed : EditsParts → Option (List Value) → List ℕ → List Value → Type 0
AreOrderComputed edits donor order new = AreComputedBy (start_lines edits) (target_of donor) new order []

-- the giving stopped in an order of numerical fields: at a field, at a line of the system of those after it
pub record StopsAmong (survey : SurveyParts) (edits : List LineParts) (target : ℕ → Value) (row : List Value)
    (given order : List ℕ) (field line : ℕ) : Type 0 where
  pub first : List ℕ
  pub rest : List ℕ
  pub order_is : order ≡ first ++ field ∷ rest
  pub so_far : List Value
  pub way : IsUnderWay survey edits target row (given ++ first) (field ∷ rest) so_far
  pub computed : AreComputedBy edits target so_far first (field ∷ rest)
  pub stops : number_result (system edits (reverse rest)) so_far field (number_in (target field)) ≡ Err line

-- where the answer is `Bound`, the giving stopped there, to whatever record values are being given
abbrev pub StopsGiving : {A : Type 0} → Result A GiveFault → SurveyParts → EditsParts → Option (List Value) → List ℕ → List Value → Type 0
StopsGiving answer survey edits donor order so_far =
    (f line : ℕ) (row : List Value) (given : List ℕ) → answer ≡ Err (Bound f line)
    → IsGiving survey edits donor row given order so_far
    → StopsAmong survey (start_lines edits) (target_of donor) row given order f line

-- codes are to be given at the fields of an order, by the lines of the system without the changed numerical fields, none of
-- which leaves the range at the record; the fields are eliminated with few enough pairs
pub record AreCodesToGive (survey : SurveyParts) (target : ℕ → Value) (lines : List LineParts)
    (order : List ℕ) (so_far : List Value) : Type 0 where
  pub row : List Value
  pub numbers : List ℕ
  pub edits : List LineParts
  pub orders : AreOrders survey.fields order numbers
  pub over : HaveShape (shape_of survey.fields) edits
  pub lines_are : lines ≡ system edits (reverse numbers)
  pub boxes : List (List ℕ)
  pub made : failing_boxes lines row ≡ Ok boxes
  pub few : AreCountable (shape_of survey.fields) row order boxes
  pub way : IsUnderWay survey edits target row [] (order ++ numbers) so_far

-- the codes at the fields of the order are given, and the numbers are left
abbrev pub GivesCodes : SurveyParts → (ℕ → Value) → List LineParts → List ℕ → List Value → List Value → Type 0
GivesCodes survey target lines order so_far new =
    (t : AreCodesToGive survey target lines order so_far) → IsUnderWay survey t.edits target t.row order t.numbers new
