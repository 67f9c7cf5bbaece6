use Rattle.std.proofs.Common.{◌++◌, get_or, pos, FitsSigned, rules}
use Rattle.std.proofs.lemmas.Int.{to_z-of_z}
use Rattle.std.proofs.lemmas.Result.{IfOk-from_err}
use mir.Syntax.{w64, w128}
use Rattle.edit_model.specs.declared.rule.Term.{Term}
use Rattle.edit_language.specs.Printing.{joint_text, term_text}
use Rattle.edit_language.proofs.PrintingSteps.{text_all, text_more_at}
use Rattle.edit_language.proofs.printing.sums.write_later_terms.Goals as goal

pub returns-in_err-write_term : goal.returns-in_err-write_term
returns-in_err-write_term c = IfOk-from_err _ _ c.from_residual.ensures.0

pub loop-term-preserved : goal.loop-term-preserved
loop-term-preserved c =
    let t : Term = get_or c.args.terms.now c.loop-term.term-index (record { field = 0; factor = pos 0 }) in
    let factor_fits : FitsSigned w64 t.factor = search rules in
    let fits : FitsSigned w128 c.from.result = search rules in
    let factor = simp to_z-of_z at c.from.ensures in
    let whole = simp to_z-of_z at c.in_ok-write_term.ensures.written in
    let step = rw factor at whole in
    text_more_at (λ (t : Term). joint_text t.factor ++ term_text c.args.fields.now t)
    _ c.args.terms.now _ _ _ _ c.loop-term-test.true c.loop-term.invariant step

pub returns : goal.returns
returns c = text_all (λ (t : Term). joint_text t.factor ++ term_text c.args.fields.now t) _ _ _ _ c.loop-term-test.false c.loop-term.invariant
