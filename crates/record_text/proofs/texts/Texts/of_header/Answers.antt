use Rattle.std.proofs.Common.{◌∙◌, ap}
use Rattle.record_text.proofs.HeaderLaws.{header_all, header_more}
use Rattle.record_text.proofs.Refusals.{no_value}
use Rattle.record_text.proofs.texts.Texts.of_header.Goals as goal

pub loop-text-init : goal.loop-text-init
loop-text-init c =
    let start = c.into_iter-text-iterator.ensures.into_iter_gives in
    (start.0, rw start.1 c.new-copy.ensures)

pub loop-text-preserved : goal.loop-text-preserved
loop-text-preserved c =
    let inv = c.loop-text.invariant in
    let step = rw inv.0 at c.in-Some.ensures.steps in
    let shown = rw c.is_empty.ensures at c.header_text.ensures in (
      ap (λ (row : _). row.now) step.0,
      c.in_ok-push.ensures.added ∙ header_more _ _ c.in-Some.text.now c.header_text.result.now c.loop-text.text-iterator.at c.next.new.self.at inv.1
          step.1 shown step.2,
    )

pub returns : goal.returns
returns c =
    let inv = c.loop-text.invariant in
    header_all _ _ c.loop-text.text-iterator.at inv.1 (rw inv.0 at c.in-None.ensures.steps.1)

pub returns-in_err-push : goal.returns-in_err-push
returns-in_err-push c = no_value c.from_residual.result _ _ c.from_residual.ensures.1
