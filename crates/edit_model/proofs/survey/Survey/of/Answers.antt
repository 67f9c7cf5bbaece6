use Rattle.edit_model.proofs.Kept.{kept}
use Rattle.edit_model.proofs.survey.Survey.of.Goals as goal

pub invariant_of-result : goal.invariant_of-result
invariant_of-result c =
    kept c.args.fields.items _ c.args.rules.items c.in_ok-numbers.numbers.items c.in_ok-categories.categories.items
    c.as_slice-declared.ensures.value c.requires c.in_ok-numbers.ensures c.in_ok-categories.ensures
