use Rattle.std.proofs.Common.{◌∙◌, FitsSigned, ap, sym, pos, rules}
use Rattle.std.proofs.lemmas.Int.{to_z-of_z}
use mir.Syntax.{w128}
use Rattle.edit_line.specs.Shapes.{number_fields, place_in}
use Rattle.linear_elim.proofs.ColumnLaws.{factor-place, past-end}
use Rattle.linear_elim.proofs.column.Column.factor.Goals as goal

pub returns-in-Some-clause-value : goal.returns-in-Some-clause-value
returns-in-Some-clause-value c =
    let x = c.in-Some.ensures.lookup in
    let column = c.args.self.now in
    let place_is = column.at ∙ ap (λ shape. place_in (number_fields shape) column.field) (sym c.requires) in
    let fits : FitsSigned w128 c.in-Some.factor.now = search rules in
    to_z-of_z w128 c.in-Some.factor.now fits ∙ factor-place c.args.line.now c.factors.result.now column.field column.place c.in-Some.factor.now
    c.factors.ensures.factors c.factors.ensures.count place_is (x.3.1 (pos 0))

pub returns-in-None-clause-value : goal.returns-in-None-clause-value
returns-in-None-clause-value c =
    let column = c.args.self.now in
    let place_is = column.at ∙ ap (λ shape. place_in (number_fields shape) column.field) (sym c.requires) in
    factor-place c.args.line.now c.factors.result.now column.field column.place (pos 0) c.factors.ensures.factors c.factors.ensures.count place_is
    (past-end c.factors.result.now column.place c.in-None.ensures.lookup.0)
