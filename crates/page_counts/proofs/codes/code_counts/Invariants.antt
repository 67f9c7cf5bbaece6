use Rattle.std.proofs.Common.{◌≡◌}
use Rattle.page_counts.specs.Columns.{code_counts}
use Rattle.page_counts.proofs.codes.code_counts.Given as goal

abbrev pub invariant-loop-code : goal.invariant-loop-code
invariant-loop-code l = l.by_code.items ≡ code_counts l.code l.values
