use Rattle.std.proofs.Common.{◌≡◌, drop}
use Rattle.fraction128.specs.Formulas.{ratio_of}
use Rattle.edit_line.specs.Sums.{sum_from, whole}
use Rattle.edit_line.proofs.sum.sum_over.Given as goal

abbrev pub invariant-loop-place : goal.invariant-loop-place
invariant-loop-place l = sum_from (drop l.place l.fields) (drop l.place l.factors) l.row (ratio_of l.sum) ≡ sum_from l.fields l.factors l.row (whole l.constant)
