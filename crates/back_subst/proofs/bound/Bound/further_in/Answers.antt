use Rattle.std.proofs.Common.{Option, ap, sym, ◌∙◌}
use Rattle.fraction128.specs.Formulas.{added, ratio_of}
use Rattle.fraction128.proofs.RatioLaws.{added-answered}
use Rattle.back_subst.specs.NumberWalk.{step_in}
use Rattle.back_subst.specs.inner.Sides.{found_any, side_of}
use Rattle.back_subst.specs.declared.bound.Bound.{Bound}
use Rattle.back_subst.proofs.bound.Bound.further_in.Goals as goal

pub returns-in-Some : goal.returns-in-Some
returns-in-Some c =
    c.middle.ensures.formula ∙ ap (λ (o : Option Bound). step_in (side_of c.args.lower) (ratio_of c.args.self.at) (found_any o)) (sym c.in-Some.is)

pub returns-in-None : goal.returns-in-None
returns-in-None c =
    added-answered c.args.self.at c.step_inward.result c.add.result c.add.ensures.value c.add.ensures.fits c.add.ensures.overflow
    ∙ ap (λ y. added (ratio_of c.args.self.at) y) c.step_inward.ensures
    ∙ ap (λ (o : Option Bound). step_in (side_of c.args.lower) (ratio_of c.args.self.at) (found_any o)) (sym c.in-None.is)
