use Rattle.std.proofs.Common.{◌↔◌, ◌<ℤ◌, ℕ, pos, negsuc, List, ◌∷◌, IsTrue, refl, sym}
use Rattle.fraction128.specs.Formulas.{Ratio}
use Rattle.edit_model.specs.Parts.{SurveyParts}
use Rattle.edit_model.specs.Points.{Point}
use Rattle.edit_model.specs.declared.value.Value.{Value}
use Rattle.edit_line.specs.EditSets.{EditsParts, base_lines}
use Rattle.edit_line.specs.Reductions.{reduce_derived}
use Rattle.edit_line.specs.Shapes.{shape_of}
use Rattle.linear_elim.proofs.FoldLaws.{start-same}
use Rattle.edit_paths.specs.Cases.{case_of}
use Rattle.edit_paths.proofs.CaseSystems.{start_over}
use Rattle.back_subst.specs.Allowed.{AllowsNumber}
use Rattle.back_subst.specs.Given.{IsAllOf, IsGivenNumber, IsSame}
use Rattle.back_subst.specs.Intervals.{Interval, is_between}
use Rattle.back_subst.specs.Laws.{IsEndAt, IsOpenNumber}
use Rattle.back_subst.specs.inner.Bounds.{DecideFor}
use Rattle.back_subst.specs.inner.Systems.{start_lines}
use Rattle.back_subst.proofs.EndLaws.{lower-end, no-lower_end, no-upper_end, upper-end}
use Rattle.back_subst.proofs.IntervalLaws.{given-allowed, given-target, within-same}
use Rattle.back_subst.proofs.NumberLaws.{allowed-interval}

-- What is known of the values that are given, by the corrections alone.

pub open-interval : (survey : SurveyParts) (edits : EditsParts) (row : List Value) (f : ℕ) (left : List ℕ) (p : Point) → IsOpenNumber survey edits row f left p
    → (i : Interval) × IsAllOf (AllowsNumber survey row (f ∷ left) f) i × ((x : Ratio) × (pos 0 <ℤ x.denominator) × IsTrue (is_between i x))
open-interval survey edits row f left p is =
    let (i, exact, (x, above, allowed)) = allowed-interval survey (start_lines edits) row f left is.case.row
    (start_over (case_of survey edits row) is.case) decide is.field is.fields is.apart p is.completes in
    (i, exact, (x, above, (exact x above).0 allowed))
  where
    decide : DecideFor survey (start_lines edits) row (f ∷ left)
    decide = record {
      sound =
          λ q codes holds. is.sound q (record {
            codes = codes;
            edits =
                (start-same (shape_of survey.fields) edits.lines (reduce_derived (base_lines edits.lines)) is.case.edits.edits refl q).0 holds;
          });
      complete =
          λ q correction agrees. (start-same (shape_of survey.fields) edits.lines (reduce_derived (base_lines edits.lines)) is.case.edits.edits refl q).1
          (is.complete q correction agrees);
    }

pub ends-are : (allowed : Ratio → Type 0) (i : Interval) (x : Ratio) → IsAllOf allowed i → pos 0 <ℤ x.denominator → allowed x
    → IsEndAt (pos 1) allowed i.lower × IsEndAt (negsuc 0) allowed i.upper
ends-are allowed i x exact above there = (
  record { there = lower-end allowed i exact x above there; nowhere = no-lower_end allowed i exact x above there },
  record { there = upper-end allowed i exact x above there; nowhere = no-upper_end allowed i exact x above there },
)

pub taken-where : (allowed : Ratio → Type 0) (target x y : Ratio) → pos 0 <ℤ target.denominator → pos 0 <ℤ x.denominator → pos 0 <ℤ y.denominator
    → allowed y → IsGivenNumber allowed target x
    → allowed x × (allowed target ↔ IsSame x target)
taken-where allowed target x y target_above x_above y_above there given =
    let own = given-allowed allowed target x y target_above x_above y_above there given in (
      own,
      (
        λ of_target. given-target allowed target x target_above of_target given,
        λ same. (given.exact target target_above).1 (within-same given.interval target x target_above x_above (sym same) ((given.exact x x_above).0 own)),
      ),
    )
