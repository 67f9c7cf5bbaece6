use Rattle.edit_language.specs.Faults.{is_large_test}
use Rattle.edit_language.proofs.FieldLaws.{last_fails}
use Rattle.edit_language.proofs.meaning.rule_of.Goals as goal

pub test_of-requires-clause-small : goal.test_of-requires-clause-small
test_of-requires-clause-small c = last_fails (λ t. is_large_test c.args.fields.now t) c.args.rule.now.conditions c.args.rule.now.conclusion c.requires.small
