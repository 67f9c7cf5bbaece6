use Rattle.fraction128.specs.Formulas.{ratio_of}
use Rattle.edit_model.proofs.TrialSteps.{sum-more}
use Rattle.edit_model.proofs.trial.sum_of.Goals as goal

pub loop-term-preserved : goal.loop-term-preserved
loop-term-preserved c =
    sum-more c.args.linear.now.terms c.as_slice-term-items.result.now c.args.row.now _ c.loop-term.term-index _ (ratio_of c.loop-term.sum)
    (ratio_of c.in_ok-sum.sum) c.as_slice-term-items.ensures c.loop-term-test.true c.in_ok-sum.ensures c.loop-term.invariant
