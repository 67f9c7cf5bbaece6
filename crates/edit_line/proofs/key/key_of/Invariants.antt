use Rattle.std.proofs.Common.{◌≡◌, drop, fold}
use Rattle.edit_line.specs.inner.Keys.{key_of, key_with}
use Rattle.edit_line.proofs.key.key_of.Given as goal

abbrev pub invariant-loop-factor : goal.invariant-loop-factor
invariant-loop-factor l = fold key_with l.key (drop l.factor-index l.factors) ≡ key_of l.factors
