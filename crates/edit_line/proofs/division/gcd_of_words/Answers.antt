use Rattle.std.proofs.Common.{arith}
use Rattle.std.proofs.lemmas.Nat.Gcd.{IsGcd-from_zero, IsGcd-from_mod}
use Rattle.fraction128.proofs.DivisorLaws.{gcd-from_IsGcd}
use Rattle.edit_line.proofs.division.gcd_of_words.Goals as goal

pub loop-remainder-preserved : goal.loop-remainder-preserved
loop-remainder-preserved c g h = c.loop-remainder.invariant g (IsGcd-from_mod _ _ g h)

pub returns : goal.returns
returns c = gcd-from_IsGcd _ _ _ (c.loop-remainder.invariant _ (IsGcd-from_zero _ _ (omega arith)))
