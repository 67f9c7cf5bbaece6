use Rattle.std.proofs.Common.{◌++◌, ℕ, List, FitsSigned, sym, ap, ◌∙◌, append_assoc, rules}
use Rattle.std.proofs.lemmas.Int.{to_z-of_z}
use Rattle.std.proofs.lemmas.Result.{IfOk-from_err, on_ok_weaker}
use mir.Syntax.{w64, w128}
use Rattle.edit_model.specs.declared.rule.Term.{Term}
use Rattle.edit_language.specs.Printing.{later_constant_text, sum_text, terms_text}
use Rattle.edit_language.proofs.printing.sums.write_sum.Goals as goal

pub returns-in_err-write_terms-in-Some : goal.returns-in_err-write_terms-in-Some
returns-in_err-write_terms-in-Some c = IfOk-from_err _ _ c.from_residual.ensures.0

pub returns-in_ok-write_terms-in-Some : goal.returns-in_ok-write_terms-in-Some
returns-in_ok-write_terms-in-Some c =
    let constant_fits : FitsSigned w64 c.args.constant = search rules in
    let from_fits : FitsSigned w128 c.from-in-Some.result = search rules in
    let from = simp to_z-of_z at c.from-in-Some.ensures in
    let written = rw from at (simp to_z-of_z at c.write_constant-in-Some.ensures.written) in
    let before = c.args.text.now.items in
    let fields = c.args.fields.now in
    let later = later_constant_text c.args.constant in
    on_ok_weaker c.write_constant-in-Some.result
    (λ e. e ∙ ap (λ (t : List ℕ). t ++ later) c.in_ok-write_terms-in-Some.ensures
    ∙ append_assoc before (terms_text fields c.in-Some.first.now c.in-Some.rest.now) later
    ∙ ap (λ (terms : List Term). before ++ sum_text fields terms c.args.constant) (sym c.in-Some.ensures.cases.0))
    written
