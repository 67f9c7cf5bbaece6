use Rattle.std.proofs.Common.{◌∙◌}
use Rattle.edit_line.proofs.ShapeLaws.{same_codes, same_fields}
use Rattle.edit_normal.proofs.survey_shape.SurveyShape.of.Goals as goal

pub invariant_of-result : goal.invariant_of-result
invariant_of-result c = record {
  numbers_are = same_fields _ c.args.survey.now.fields _ (c.in_ok-numbers.ensures.items ∙ c.numbers.ensures) c.of-shape.ensures;
  categories_are = same_codes _ c.args.survey.now.fields _ (c.in_ok-categories.ensures.items ∙ c.codes.ensures) c.of-shape.ensures;
  wholes_are = c.in_ok-wholes.ensures;
}
