use Rattle.std.specs.Prelude.{◌≡◌, ◌↔◌, ◌<ℤ◌, ℕ, ℤ, pos, negsuc, false, List, ◌∷◌, All, Option, Some, None, IsTrue}
use Rattle.fraction128.specs.Formulas.{Ratio}
use Rattle.edit_model.specs.Corrections.{IsCorrection}
use Rattle.edit_model.specs.Parts.{SurveyParts}
use Rattle.edit_model.specs.Points.{Point}
use Rattle.edit_model.specs.declared.value.Value.{Value}
use Rattle.edit_line.specs.EditSets.{EditsParts}
use Rattle.edit_line.specs.Lines.{AllHold}
use Rattle.edit_line.specs.Shapes.{IsNumerical, has_field, shape_of}
use Rattle.edit_paths.specs.Cases.{IsCase, Meets, case_of, edit_lines}
use Rattle.back_subst.specs.Allowed.{AgreesBut, AllowsNumber, Completes}
use Rattle.back_subst.specs.Given.{IsAllOf, IsGivenNumber, IsSame}
use Rattle.back_subst.specs.Intervals.{End, Interval, IsEndOf, is_between}

-- a numerical field, and other numerical fields that are left with it; some correction has the record's values elsewhere,
-- and the edits tell corrections
pub record IsOpenNumber (survey : SurveyParts) (edits : EditsParts) (row : List Value) (f : ℕ) (left : List ℕ)
    (p : Point) : Type 0 where
  pub case : IsCase (case_of survey edits row)
  pub field : IsNumerical (shape_of survey.fields) f
  pub fields : All (IsNumerical (shape_of survey.fields)) left
  pub apart : has_field left f ≡ false
  pub completes : Completes survey row (f ∷ left) p
  pub sound : (q : Point) → Meets (case_of survey edits row) q → IsCorrection survey q
  pub complete : (q : Point) → IsCorrection survey q → AgreesBut (f ∷ left) row q → AllHold (edit_lines (case_of survey edits row)) q

-- the numbers allowed at such a field are an interval that is not empty, with fractions as its ends
abbrev pub IntervalLaw : Type 0
IntervalLaw =
    (survey : SurveyParts) (edits : EditsParts) (row : List Value) (f : ℕ) (left : List ℕ) (p : Point)
    → IsOpenNumber survey edits row f left p
    → (i : Interval) × IsAllOf (AllowsNumber survey row (f ∷ left) f) i × ((x : Ratio) × (pos 0 <ℤ x.denominator) × IsTrue (is_between i x))

-- an end of the interval of the allowed numbers, at a side, is their end by these numbers alone; and where the interval
-- has none there, they have none
pub record IsEndAt (side : ℤ) (allowed : Ratio → Type 0) (end : Option End) : Type 0 where
  pub there : (e : End) → end ≡ Some e → IsEndOf side allowed e.at
  pub nowhere : end ≡ None → (w : Ratio) → pos 0 <ℤ w.denominator → ¬ IsEndOf side allowed w

-- the lower end is the greatest fraction that no allowed number is below, and the upper end the least that none is above
abbrev pub EndLaw : Type 0
EndLaw =
    (survey : SurveyParts) (row : List Value) (left : List ℕ) (f : ℕ) (i : Interval) (x : Ratio)
    → IsAllOf (AllowsNumber survey row left f) i
    → pos 0 <ℤ x.denominator → AllowsNumber survey row left f x
    → IsEndAt (pos 1) (AllowsNumber survey row left f) i.lower × IsEndAt (negsuc 0) (AllowsNumber survey row left f) i.upper

-- where some number is allowed, the one that is given is, and it is the target exactly where that is
abbrev pub TakenLaw : Type 0
TakenLaw =
    (survey : SurveyParts) (row : List Value) (left : List ℕ) (f : ℕ) (target x y : Ratio)
    → pos 0 <ℤ target.denominator → pos 0 <ℤ x.denominator → pos 0 <ℤ y.denominator → AllowsNumber survey row left f y
    → IsGivenNumber (AllowsNumber survey row left f) target x
    → AllowsNumber survey row left f x × (AllowsNumber survey row left f target ↔ IsSame x target)
