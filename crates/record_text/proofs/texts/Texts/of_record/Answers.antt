use Rattle.std.proofs.Common.{◌∙◌, ap}
use Rattle.record_text.proofs.RecordLaws.{copied_all, copied_more}
use Rattle.record_text.proofs.Refusals.{no_value}
use Rattle.record_text.proofs.texts.Texts.of_record.Goals as goal

pub loop-text-init : goal.loop-text-init
loop-text-init c =
    let start = c.into_iter-text-iterator.ensures.into_iter_gives in
    (start.0, rw start.1 c.in_ok-copy.ensures)

pub loop-text-preserved : goal.loop-text-preserved
loop-text-preserved c =
    let inv = c.loop-text.invariant in
    let step = rw inv.0 at c.in-Some.ensures.steps in (
      ap (λ (row : _). row.now) step.0,
      c.in_ok-push.ensures.added ∙ copied_more _ _ c.in-Some.text.now c.loop-text.text-iterator.at c.next.new.self.at inv.1 step.1 step.2,
    )

pub returns : goal.returns
returns c =
    let inv = c.loop-text.invariant in
    copied_all _ _ c.loop-text.text-iterator.at inv.1 (rw inv.0 at c.in-None.ensures.steps.1)

pub returns-in_err-copy : goal.returns-in_err-copy
returns-in_err-copy c = no_value c.from_residual.result _ _ c.from_residual.ensures.1

pub returns-in_err-push : goal.returns-in_err-push
returns-in_err-push c = no_value c.from_residual-in_err-push.result _ _ c.from_residual-in_err-push.ensures.1
