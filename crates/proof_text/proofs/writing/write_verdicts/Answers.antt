use Rattle.std.proofs.Common.{Option, List, ◌++◌, ap, subst, ◌∙◌}
use Rattle.derivation.specs.declared.step.Step.{Step}
use Rattle.proof_text.specs.inner.Texts.{verdict_text}
use Rattle.proof_grammar.specs.Sizes.{IsSizedVerdict}
use Rattle.proof_text.proofs.PartTexts.{all_more, text_more}
use Rattle.proof_text.proofs.writing.write_verdicts.Goals as goal

pub loop-verdict-preserved : goal.loop-verdict-preserved
loop-verdict-preserved c =
    let verdicts = c.args.verdicts.now in
    let i = c.loop-verdict.verdict-index in
    let verdict = c.verdict-item.result in
    let text = λ (x : Option (List Step)). verdict_text x in
    let written = c.in_ok-write_verdict.ensures.text ∙ ap (λ (x : Option (List Step)). c.loop-verdict.text.items ++ text x) c.verdict-item.is in (
      text_more text _ verdicts i verdict _ _ c.loop-verdict-test.true c.loop-verdict.invariant.0 written,
      all_more IsSizedVerdict verdicts i verdict c.loop-verdict-test.true c.loop-verdict.invariant.1
          (subst IsSizedVerdict c.verdict-item.is c.in_ok-write_verdict.ensures.sized),
    )
