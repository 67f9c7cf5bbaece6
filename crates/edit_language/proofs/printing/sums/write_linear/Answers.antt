use Rattle.std.proofs.Common.{FitsSigned, append_assoc, rules}
use Rattle.std.proofs.lemmas.Int.{to_z-of_z}
use Rattle.std.proofs.lemmas.Result.{IfOk-from_err}
use mir.Syntax.{w64}
use Rattle.edit_language.specs.Printing.{compare_text, sum_text}
use Rattle.edit_language.proofs.printing.sums.write_linear.Goals as goal

pub returns-in_err-write_sum : goal.returns-in_err-write_sum
returns-in_err-write_sum c = IfOk-from_err _ _ c.from_residual.ensures.0

pub returns-in_err-extend_from_slice : goal.returns-in_err-extend_from_slice
returns-in_err-extend_from_slice c = IfOk-from_err _ _ c.from_residual-in_err-extend_from_slice.ensures.0

pub returns : goal.returns
returns c =
    let linear = c.args.linear.now in
    let fits : FitsSigned w64 linear.constant = search rules in
    let sum = simp to_z-of_z at c.in_ok-write_sum.ensures in
    rw (c.in_ok-extend_from_slice.ensures.items, sum, c.as_slice.ensures, c.compare_text.ensures)
    (append_assoc c.args.text.now.items (sum_text c.args.fields.now linear.terms linear.constant) (compare_text linear.compare))
