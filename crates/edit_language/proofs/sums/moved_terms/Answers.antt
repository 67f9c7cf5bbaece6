use Rattle.std.proofs.Common.{◌∙◌, FitsSigned, rules, arith}
use Rattle.std.proofs.lemmas.Int.{to_z-of_z}
use Rattle.std.proofs.lemmas.Result.{IfOk-from_err}
use mir.Syntax.{w64}
use Rattle.edit_model.specs.declared.field.Field.{Field}
use Rattle.edit_language.specs.Faults.{is_large_factor}
use Rattle.edit_language.proofs.FieldLaws.{fails_at}
use Rattle.edit_language.proofs.SumLaws.{moved_more}
use Rattle.std.proofs.lemmas.Grind.{common_steps}
use Rattle.edit_language.proofs.sums.moved_terms.Goals as goal

pub small_factor-requires-clause-small : goal.small_factor-requires-clause-small
small_factor-requires-clause-small c =
    fails_at (λ (f : Field). is_large_factor c.args.left.now c.args.right.now f.name)
    c.args.fields.now c.loop-i.i c.index-fields-i.result c.requires.small c.loop-i-test.true c.index-fields-i.is

pub returns-in_err-push_term : goal.returns-in_err-push_term
returns-in_err-push_term c = IfOk-from_err _ _ c.from_residual.ensures.0

pub loop-i-preserved : goal.loop-i-preserved
loop-i-preserved c =
    let fits : FitsSigned w64 c.small_factor.result = search rules in
    let pushed = simp to_z-of_z at c.in_ok-push_term.ensures in
    moved_more c.args.left.now c.args.right.now c.args.fields.now c.loop-i.i c.index-fields-i.result
    _ c.loop-i.terms.items _ c.loop-i-test.true c.index-fields-i.is c.small_factor.ensures pushed
    ∙ c.loop-i.invariant

pub returns : goal.returns
returns c = grind (arith, common_steps)
