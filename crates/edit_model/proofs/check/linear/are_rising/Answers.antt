use Rattle.std.proofs.Common.{◌-◌, arith, rules}
use Rattle.std.proofs.lemmas.List.{length-map}
use Rattle.edit_model.proofs.Rising.{rising_more, not_rising}
use Rattle.edit_model.proofs.check.linear.are_rising.Goals as goal

pub returns-then-terms-i : goal.returns-then-terms-i
returns-then-terms-i c = (
  λ no_truth. search rules,
  λ rising. absurd (not_rising c.args.terms.now c.loop-i.i _ c.loop-i.auto.i c.loop-i-test.true c.if-terms-i.true
      (rising (c.loop-i.i - 1) (simp length-map (omega arith)))),
)

pub loop-i-preserved : goal.loop-i-preserved
loop-i-preserved c = rising_more c.args.terms.now c.loop-i.i _ c.loop-i-test.true c.loop-i.invariant c.if-terms-i.false
