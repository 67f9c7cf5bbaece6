use Rattle.std.proofs.Common.{◌≡◌, ◌≢◌, ◌<◌, Option, Ok, int_lt, length, get_or, ℤ, List, pos, sym, ap, ◌∙◌, arith, FitsSigned, to_z, of_z, rules}
use mir.Syntax.{w128}
use Rattle.std.proofs.lemmas.Int.{to_z-of_z}
use Rattle.std.specs.Result.{result_ok}
use Rattle.foundation.specs.Options.{◌>>?◌}
use Rattle.fraction128.specs.Formulas.{Ratio, answered, divided, ratio_of}
use Rattle.edit_line.specs.Lines.{factor}
use Rattle.edit_line.specs.Shapes.{number_fields, shape_of}
use Rattle.edit_line.specs.Sums.{sum_at}
use Rattle.edit_line.proofs.ShapeLaws.{place-within}
use lib.IntN.{neg_ℤ}
use Rattle.back_subst.specs.NumberWalk.{bounded_by}
use Rattle.back_subst.specs.inner.Sides.{ends_of}
use Rattle.back_subst.proofs.LineSteps.{factor-at, with-bound, without-bound, without-codes, without-factor}
use Rattle.back_subst.proofs.line_bounds.with_line.Goals as goal
use Rattle.back_subst.proofs.line_bounds.with_line.Goals.{After-factors, then-factor-eq0-via-then-factor-eq0}
use Rattle.back_subst.proofs.line_bounds.with_line.Goals.{then-factor-eq0-via-else-factor-eq0+then-not-admits_codes_of}

module _ (c : After-factors) where
  within : c.args.at.now.place < length c.factors.result.now
  within =
      let shape = shape_of c.args.at.now.survey.now.fields in
      let found = place-within (number_fields shape) c.args.at.now.field c.args.at.now.numerical in
      let many = ap length c.factors.ensures.factors ∙ c.factors.ensures.count ∙ ap (λ s. length (number_fields s)) c.requires.shape in
      omega (arith, found, many, c.args.at.now.stands)

  -- the factor that is read is the field's
  read : FitsSigned w128 (get_or c.factors.result.now c.args.at.now.place (pos 0))
      → to_z w128 (of_z w128 (get_or c.factors.result.now c.args.at.now.place (pos 0))) ≡ factor c.args.line.now c.args.at.now.field
  read fits =
      to_z-of_z w128 _ fits ∙ ap (λ (fs : List ℤ). get_or fs c.args.at.now.place (pos 0)) c.factors.ensures.factors
      ∙ factor-at (shape_of c.args.at.now.survey.now.fields) c.args.line.now c.args.at.now.field c.args.at.now.place c.requires.shape
      c.factors.ensures.count c.args.at.now.stands

  module _ (fits : FitsSigned w128 (get_or c.factors.result.now c.args.at.now.place (pos 0))) where
    stands : (of_z w128 (get_or c.factors.result.now c.args.at.now.place (pos 0)) ≢ of_z w128 (pos 0)) → factor c.args.line.now c.args.at.now.field ≢ pos 0
    stands other none = other (ap (of_z w128) (sym (to_z-of_z w128 _ fits) ∙ read fits ∙ none))

    -- what is told of the bound, by the field's factor
    told : (o : Option Ratio) → o ≡ (result_ok (sum_at c.args.line.now c.args.at.now.row.now) >>?
        (λ s. divided s (neg_ℤ (to_z w128 (of_z w128 (get_or c.factors.result.now c.args.at.now.place (pos 0)))))))
        → o ≡ (result_ok (sum_at c.args.line.now c.args.at.now.row.now) >>? (λ s. divided s (neg_ℤ (factor c.args.line.now c.args.at.now.field))))
    told o is = is ∙ ap (λ (k : ℤ). (result_ok (sum_at c.args.line.now c.args.at.now.row.now) >>? (λ s. divided s (neg_ℤ k)))) (read fits)

pub offset_bounds-factors-at : goal.offset_bounds-factors-at
offset_bounds-factors-at c =
    let below = within (goal.at.offset_bounds-factors-at c).After-factors in
    search rules

pub bounds-factors-at : goal.bounds-factors-at
bounds-factors-at c = within (goal.at.bounds-factors-at c).After-factors

pub returns-then-factor-eq0 : goal.returns-then-factor-eq0
returns-then-factor-eq0 c =
    let line = c.args.line.now in
    let at = (goal.at.returns-then-factor-eq0 c).After-factors in
    elim c.then-factor-eq0.branch [
      | then-factor-eq0-via-then-factor-eq0 w ↦
          let fits : FitsSigned w128 (get_or c.factors.result.now c.args.at.now.place (pos 0)) = search rules in
          without-factor c.args.i c.args.at.now.field line c.args.at.now.row.now (ends_of c.args.bounds)
          (sym (read at fits) ∙ ap (to_z w128) w.if-factor-eq0.true)
      | then-factor-eq0-via-else-factor-eq0+then-not-admits_codes_of w ↦ without-codes c.args.i c.args.at.now.field line c.args.at.now.row.now
          (ends_of c.args.bounds) (sym w.if-not-admits_codes_of.ensures)
    ]

pub returns-in-Ok : goal.returns-in-Ok
returns-in-Ok c =
    let f = c.args.at.now.field in
    let at = (goal.at.returns-in-Ok c).After-factors in
    let fits : FitsSigned w128 (get_or c.factors.result.now c.args.at.now.place (pos 0)) = search rules in
    ap Ok (
    c.bounded_by.ensures ∙ ap (λ (k : ℤ). bounded_by c.relation.result (ends_of c.args.bounds) (int_lt (pos 0) k) (ratio_of c.in-Ok.end) c.args.i)
    (read at fits)
    ∙ ap (λ r. bounded_by r (ends_of c.args.bounds) (int_lt (pos 0) (factor c.args.line.now f)) (ratio_of c.in-Ok.end) c.args.i) c.relation.ensures
    )
    ∙ with-bound c.args.i f c.args.line.now c.args.at.now.row.now (ends_of c.args.bounds) (sym c.if-not-admits_codes_of.ensures)
    (stands at fits c.if-factor-eq0.false) c.args.at.now.blank (answered c.bound_at.result) (told at fits _ c.bound_at.ensures) (ratio_of c.in-Ok.end)
    (ap answered c.in-Ok.is)

pub returns-in-Err : goal.returns-in-Err
returns-in-Err c =
    let at = (goal.at.returns-in-Err c).After-factors in
    let fits : FitsSigned w128 (get_or c.factors.result.now c.args.at.now.place (pos 0)) = search rules in
    without-bound c.args.i c.args.at.now.field c.args.line.now c.args.at.now.row.now (ends_of c.args.bounds) (sym c.if-not-admits_codes_of.ensures)
    (stands at fits c.if-factor-eq0.false) c.args.at.now.blank (answered c.bound_at.result) (told at fits _ c.bound_at.ensures) (ap answered c.in-Err.is)
