use Rattle.std.proofs.Common.{◌≡◌, ◌-◌, ℕ, List, [], ◌∷◌, ◌++◌, Ok, Err, length, ap, sym, subst, ◌∙◌, arith, string_bytes}
use Rattle.std.specs.List.{range_with_len}
use Rattle.edit_line.specs.declared.derived.Derived.{Derived}
use Rattle.linear_elim.specs.Steps.{OneShape, pairs_count, step_result, with_more}
use Rattle.linear_elim.proofs.ResultLaws.{HaveShape-result}
use Rattle.linear_elim.proofs.ShapeLaws.{OneShape-have}
use Rattle.elimination_bench.specs.inner.Differences.{numbers_of, shape_with}
use Rattle.elimination_bench.specs.inner.Folds.{pairs_answer, steps_answer}
use Rattle.elimination_bench.specs.inner.Texts.{IsTold, step_text}
use Rattle.bench_frame.specs.declared.fault.Fault.{Fault}
use Rattle.elimination_bench.proofs.FoldLaws.{start-over, steps-end, steps-more, steps-start, steps-stop, told-handed}
use Rattle.elimination_bench.proofs.elimination.pairs_text.Goals as goal

pub take_step-requires : goal.take_step-requires
take_step-requires c = OneShape-have (shape_with (numbers_of c.args.differences)) c.reduced.result.now
    (start-over c.args.differences c.reduced.result.now c.in_ok-edits.edits c.in_ok-edits.ensures c.reduced.ensures.exact c.reduced.ensures.lines)

pub returns-in_err-lines : goal.returns-in_err-lines
returns-in_err-lines c =
    let whole = pairs_answer c.args.differences c.args.count in
    let start = steps-start c.args.differences c.args.count c.reduced.result.now c.in_ok-edits.edits c.in_ok-edits.ensures c.reduced.ensures.exact in
    told-handed c.from_residual-in_err-lines.result whole c.from_residual-in_err-lines.ensures.1
    (λ fault is. steps-stop fault c.reduced.result.now 0 c.args.count [] whole (omega (arith, c.requires.some)) start
    (subst (λ (f : Fault). IsTold (Err f) (steps_answer c.reduced.result.now (0 ∷ []))) (sym is) c.in_err-lines.ensures.fault))

pub loop-field-init : goal.loop-field-init
loop-field-init c =
    let start = steps-start c.args.differences c.args.count c.reduced.result.now c.in_ok-edits.edits c.in_ok-edits.ensures c.reduced.ensures.exact in
    let over = start-over c.args.differences c.reduced.result.now c.in_ok-edits.edits c.in_ok-edits.ensures c.reduced.ensures.exact c.reduced.ensures.lines in (
      steps-more c.reduced.result.now c.in_ok-lines.lines.items 0 c.args.count (string_bytes c.new-text.result) (string_bytes c.take_step.new.text)
          (pairs_answer c.args.differences c.args.count) (omega (arith, c.requires.some))
          (ap (λ (t : List ℕ). with_more t (steps_answer c.reduced.result.now (range_with_len 0 (c.args.count - 0)))) c.new-text.ensures.bytes ∙ start)
          c.in_ok-lines.ensures.step c.in_ok-lines.ensures.text,
      HaveShape-result (shape_with (numbers_of c.args.differences)) c.reduced.result.now 0 c.in_ok-lines.lines.items c.in_ok-lines.ensures.step over,
    )

pub take_step-requires-in-loop-field : goal.take_step-requires-in-loop-field
take_step-requires-in-loop-field c =
    subst (λ (ls : List Derived). OneShape ls) (sym c.deref.ensures.value) (OneShape-have (shape_with (numbers_of c.args.differences)) c.loop-field.lines.items
    c.loop-field.invariant.1)

pub returns-in_err-lines-2 : goal.returns-in_err-lines-2
returns-in_err-lines-2 c =
    let whole = pairs_answer c.args.differences c.args.count in
    told-handed c.from_residual-in_err-lines-2.result whole c.from_residual-in_err-lines-2.ensures.1
    (λ fault is. steps-stop fault c.loop-field.lines.items c.loop-field.field c.args.count (string_bytes c.loop-field.text) whole c.loop-field-test.true
    c.loop-field.invariant.0
    (subst (λ (ls : List Derived). IsTold (Err fault) (steps_answer ls (c.loop-field.field ∷ []))) c.deref.ensures.value
    (subst (λ (f : Fault). IsTold (Err f) (steps_answer c.deref.result.now (c.loop-field.field ∷ []))) (sym is) c.in_err-lines-2.ensures.fault)))

pub loop-field-preserved : goal.loop-field-preserved
loop-field-preserved c =
    let step = subst (λ (ls : List Derived). step_result ls c.loop-field.field ≡ Ok c.in_ok-lines-2.lines.items) c.deref.ensures.value
    c.in_ok-lines-2.ensures.step in
    let text = c.in_ok-lines-2.ensures.text ∙ ap (λ (ls : List Derived). string_bytes c.loop-field.text
    ++ step_text c.loop-field.field (pairs_count ls c.loop-field.field) (length c.in_ok-lines-2.lines.items)) c.deref.ensures.value in (
      steps-more c.loop-field.lines.items c.in_ok-lines-2.lines.items c.loop-field.field c.args.count (string_bytes c.loop-field.text)
          (string_bytes c.take_step-in-loop-field.new.text) (pairs_answer c.args.differences c.args.count) c.loop-field-test.true
          c.loop-field.invariant.0 step text,
      HaveShape-result (shape_with (numbers_of c.args.differences)) c.loop-field.lines.items c.loop-field.field c.in_ok-lines-2.lines.items step
          c.loop-field.invariant.1,
    )

pub returns : goal.returns
returns c = steps-end c.loop-field.lines.items c.loop-field.field c.args.count (string_bytes c.loop-field.text) (pairs_answer c.args.differences c.args.count)
    (omega (arith, c.loop-field-test.false)) c.loop-field.invariant.0
