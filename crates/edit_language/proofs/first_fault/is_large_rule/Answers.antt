use Rattle.std.proofs.Common.{sym, ◌∙◌}
use Rattle.edit_language.specs.Faults.{is_large_test}
use Rattle.edit_language.proofs.FieldLaws.{last_decides}
use Rattle.edit_language.proofs.first_fault.is_large_rule.Goals as goal

pub returns-else-any_large_test : goal.returns-else-any_large_test
returns-else-any_large_test c = last_decides (λ t. is_large_test c.args.fields.now t) c.args.rule.now.conditions c.as_slice.result.now
    c.args.rule.now.conclusion c.is_large_test.result c.as_slice.ensures (sym c.any_large_test.ensures ∙ c.if-any_large_test.false) c.is_large_test.ensures
