use Rattle.std.proofs.Common.{◌∙◌, FitsSigned, ap, length, pos, rules, sym, List, ℕ, ℤ}
use Rattle.std.proofs.lemmas.Int.{to_z-of_z}
use mir.Syntax.{w128}
use Rattle.edit_line.specs.Shapes.{beside}
use Rattle.edit_line.proofs.ShapeLaws.{same_fields}
use Rattle.edit_line.proofs.line.Line.factor_at.Goals as goal

pub factor_beside-requires : goal.factor_beside-requires
factor_beside-requires c =
    ap length c.factors.ensures.factors ∙ c.factors.ensures.count
    ∙ sym (ap length (same_fields c.numbers.result.now c.args.survey.now.fields c.args.self.now.shape c.numbers.ensures c.requires))

pub returns : goal.returns
returns c =
    let fits : FitsSigned w128 c.factor_beside.result = search rules in
    to_z-of_z w128 c.factor_beside.result fits ∙ c.factor_beside.ensures ∙ ap (λ (fs : List ℤ). beside (pos 0) c.numbers.result.now fs c.args.field)
    c.factors.ensures.factors
    ∙ ap (λ (ns : List ℕ). beside (pos 0) ns c.args.self.now.factors c.args.field) (same_fields c.numbers.result.now c.args.survey.now.fields
    c.args.self.now.shape c.numbers.ensures c.requires)
