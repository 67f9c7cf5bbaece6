use Rattle.std.proofs.Common.{◌≡◌, ◌∙◌, ℕ, List, true, ap, rules, subst, sym}
use Rattle.edit_line.specs.Shapes.{has_field, shape_of}
use Rattle.edit_line.proofs.ShapeLaws.{number_fields-same}
use Rattle.linear_elim.specs.Systems.{AreNumerical}
use Rattle.linear_elim.proofs.ExtensionLaws.{numerical-more}
use Rattle.elimination_tests.proofs.reading.with_number.Goals as goal

pub returns : goal.returns
returns c =
    let there : has_field c.numbers.result.now c.args.field ≡ true = search rules in
    subst (λ (set : ℕ). AreNumerical (shape_of c.args.survey.now.fields) set) (sym c.with.ensures.set)
    (numerical-more (shape_of c.args.survey.now.fields) c.args.set c.args.field c.requires
    (ap (λ (fs : List ℕ). has_field fs c.args.field) (number_fields-same c.args.survey.now.fields ∙ sym c.numbers.ensures) ∙ there))
