use Rattle.std.proofs.Common.{◌≡◌, drop}
use Rattle.edit_normal.specs.NormalForm.{term_factor}
use Rattle.edit_normal.proofs.side.factor_at.Given as goal

abbrev pub invariant-loop-term : goal.invariant-loop-term
invariant-loop-term l = term_factor (drop l.term-index l.linear.terms) l.field ≡ term_factor l.linear.terms l.field
