use Rattle.std.proofs.Common.{◌∷◌, ◌++◌, length, subst}
use Rattle.std.specs.Fmt.{decimal}
use Rattle.proof_grammar.specs.ProofLines.{step_line_in}
use Rattle.proof_grammar.specs.Sizes.{IsSizedStep}
use Rattle.proof_text.proofs.PartTexts.{all_more, line_more}
use Rattle.proof_text.proofs.writing.steps.write_steps.Goals as goal

pub loop-step-preserved : goal.loop-step-preserved
loop-step-preserved c =
    let steps = c.args.steps.now in
    let step = c.step-item.result in (
      line_more (step_line_in c.args.shared) (c.args.text.now.items ++ (32 ∷ decimal (length steps))) steps c.loop-step.step-index step _ _ _
          c.loop-step-test.true c.step-item.is c.loop-step.invariant.0 c.in_ok-write_step_in.ensures.text c.in_ok-push.ensures.items,
      all_more IsSizedStep steps c.loop-step.step-index step c.loop-step-test.true c.loop-step.invariant.1
          (subst IsSizedStep c.step-item.is c.in_ok-write_step_in.ensures.sized),
    )
