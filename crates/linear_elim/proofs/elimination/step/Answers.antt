use Rattle.linear_elim.specs.Steps.{step_result}
use Rattle.linear_elim.specs.Told.{told_step}
use Rattle.linear_elim.proofs.StepClauses.{if_err-fault, if_ok-lines}
use Rattle.linear_elim.proofs.OverflowLaws.{step-fits, step-overflows}
use Rattle.linear_elim.proofs.OriginLaws.{origins-result}
use Rattle.linear_elim.proofs.ResultLaws.{HaveShape-result, lifts-result}
use Rattle.linear_elim.proofs.elimination.step.Goals as goal

pub returns-clause-over : goal.returns-clause-over
returns-clause-over c =
    if_ok-lines (λ v. v.items) told_step (step_result c.args.lines.now c.args.field) c.step_from.result
    (λ v is shape over. HaveShape-result shape c.args.lines.now c.args.field v.items is over) c.step_from.ensures.exact

pub returns-clause-lifts : goal.returns-clause-lifts
returns-clause-lifts c =
    if_ok-lines (λ v. v.items) told_step (step_result c.args.lines.now c.args.field) c.step_from.result
    (λ v is shape over number p. lifts-result shape c.args.lines.now c.args.field v.items is over p number) c.step_from.ensures.exact

pub returns-clause-origins : goal.returns-clause-origins
returns-clause-origins c =
    if_ok-lines (λ v. v.items) told_step (step_result c.args.lines.now c.args.field) c.step_from.result
    (λ v is shape over. origins-result shape c.args.lines.now c.args.field over v.items is) c.step_from.ensures.exact

pub returns-clause-overflow : goal.returns-clause-overflow
returns-clause-overflow c =
    if_err-fault (λ v. v.items) told_step (step_result c.args.lines.now c.args.field) c.step_from.result
    (λ o is. step-overflows c.args.lines.now c.args.field o is) c.step_from.ensures.exact

pub returns-clause-fits : goal.returns-clause-fits
returns-clause-fits c =
    if_ok-lines (λ v. v.items) told_step (step_result c.args.lines.now c.args.field) c.step_from.result
    (λ v is. step-fits c.args.lines.now c.args.field v.items is) c.step_from.ensures.exact
