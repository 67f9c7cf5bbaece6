use Rattle.std.proofs.Common.{◌&&◌, not, sym, ap, ◌∙◌}
use Rattle.std.specs.declared.cmp.Ordering.TheVariants.{Equal, Greater, Less}
use Rattle.fraction128.proofs.FractionOrder.{compared}
use Rattle.back_subst.proofs.CodeBounds.{tighter-equal, tighter-greater, tighter-less}
use Rattle.back_subst.proofs.bound.Bound.is_tighter.Goals as goal

pub returns-in-Less : goal.returns-in-Less
returns-in-Less c = tighter-less c.args.self c.args.other c.args.lower (compared c.args.self.at c.args.other.at Less (sym c.in-Less.is ∙ c.compare.ensures))

pub returns-then-self : goal.returns-then-self
returns-then-self c =
    ap (λ b. b && not c.args.other.strict) (sym c.if-self.true)
    ∙ tighter-equal c.args.self c.args.other c.args.lower (compared c.args.self.at c.args.other.at Equal (sym c.in-Equal.is ∙ c.compare.ensures))

pub returns-else-self : goal.returns-else-self
returns-else-self c =
    c.if-self.false ∙ ap (λ b. b && not c.args.other.strict) (sym c.if-self.false)
    ∙ tighter-equal c.args.self c.args.other c.args.lower (compared c.args.self.at c.args.other.at Equal (sym c.in-Equal.is ∙ c.compare.ensures))

pub returns-in-Greater : goal.returns-in-Greater
returns-in-Greater c =
    tighter-greater c.args.self c.args.other c.args.lower (compared c.args.self.at c.args.other.at Greater (sym c.in-Greater.is ∙ c.compare.ensures))
