use Rattle.std.proofs.Common.{◌≡◌, ◌++◌, ◌+◌, ◌∙◌, drop, get_or, option_copied, subst, sym, ap, take}
use Rattle.std.proofs.lemmas.List.{drop_all, take_all}
use Rattle.edit_model.specs.RowPoints.{code_in}
use Rattle.edit_model.specs.declared.value.Value.{Value}
use Rattle.edit_line.specs.Shapes.{shape_of}
use Rattle.back_subst.specs.Given.{IsGivenCode, target_of}
use Rattle.back_subst.specs.inner.Codes.{IsFree, boxes_for}
use Rattle.back_subst.specs.inner.UnderWay.{IsUnderWay}
use Rattle.back_subst.proofs.CodeTurns.{categorical-here, code-turned, codes-end, kind-found, some-here, shapes-here, takes-codes}
use Rattle.back_subst.proofs.UnderWayLaws.{code-field_below, donor-within}
use Rattle.back_subst.proofs.giving.give_codes.Goals as goal

pub target_of-value-requires : goal.target_of-value-requires
target_of-value-requires c =
    donor-within c.args.survey.now (option_copied c.args.donor) (get_or c.args.order.now c.loop-field.field-index 0) c.requires.donor
    (code-field_below c.args.survey.now.fields _ (categorical-here c.args.survey.now (target_of (option_copied c.args.donor)) c.args.lines.now
    c.args.order.now c.args.new.now c.requires.ready c.loop-field.field-index c.loop-field-test.true c.loop-field.new
    (c.loop-field.invariant c.requires.ready)))

pub code_for-requires-clause-shape : goal.code_for-requires-clause-shape
code_for-requires-clause-shape c =
    shapes-here c.args.survey.now (target_of (option_copied c.args.donor)) c.args.lines.now c.args.order.now c.args.new.now c.requires.ready
    c.loop-field.field-index c.loop-field-test.true c.loop-field.new (c.loop-field.invariant c.requires.ready)

pub code_for-requires-clause-row : goal.code_for-requires-clause-row
code_for-requires-clause-row c = (c.loop-field.invariant c.requires.ready).is_row

pub code_for-requires-clause-some : goal.code_for-requires-clause-some
code_for-requires-clause-some c =
    some-here c.args.survey.now (target_of (option_copied c.args.donor)) c.args.lines.now c.args.order.now c.args.new.now c.requires.ready
    c.loop-field.field-index c.loop-field-test.true c.loop-field.new (c.loop-field.invariant c.requires.ready)

pub code_for-requires-clause-field : goal.code_for-requires-clause-field
code_for-requires-clause-field c =
    categorical-here c.args.survey.now (target_of (option_copied c.args.donor)) c.args.lines.now c.args.order.now c.args.new.now c.requires.ready
    c.loop-field.field-index c.loop-field-test.true c.loop-field.new (c.loop-field.invariant c.requires.ready)

pub code_for-requires-clause-codes : goal.code_for-requires-clause-codes
code_for-requires-clause-codes c =
    takes-codes c.args.survey.now (target_of (option_copied c.args.donor)) c.args.lines.now c.args.order.now c.args.new.now c.requires.ready
    c.loop-field.field-index c.loop-field-test.true c.loop-field.new (c.loop-field.invariant c.requires.ready)

pub set-requires-clause-row : goal.set-requires-clause-row
set-requires-clause-row c = (c.loop-field.invariant c.requires.ready).is_row

pub set-requires-clause-kind : goal.set-requires-clause-kind
set-requires-clause-kind c =
    kind-found c.args.survey.now (target_of (option_copied c.args.donor)) c.args.lines.now c.args.order.now c.args.new.now c.requires.ready
    c.loop-field.field-index c.loop-field-test.true c.loop-field.new (c.loop-field.invariant c.requires.ready) c.code_number-target.result
    c.in_ok-code.code c.in_ok-code.ensures.0 c.in_ok-code.ensures.2

pub loop-field-preserved : goal.loop-field-preserved
loop-field-preserved c = λ t.
    let target = target_of (option_copied c.args.donor) in
    let g = get_or c.args.order.now c.loop-field.field-index 0 in
    let same : c.code_number-target.result ≡ code_in (target g) = c.code_number-target.ensures ∙ ap (λ (v : Value). code_in v) c.target_of-value.ensures in
    subst (λ r. IsUnderWay c.args.survey.now t.edits target t.row (take (c.loop-field.field-index + 1) c.args.order.now)
    (drop (c.loop-field.field-index + 1) c.args.order.now ++ t.numbers) r) (sym c.set.ensures.set)
    (code-turned c.args.survey.now (target_of (option_copied c.args.donor)) c.args.lines.now c.args.order.now c.args.new.now t c.loop-field.field-index
    c.loop-field-test.true c.loop-field.new (c.loop-field.invariant t) c.in_ok-code.code c.in_ok-code.ensures.0 c.in_ok-code.ensures.1
    (λ left blank. subst (λ n. IsGivenCode (IsFree (shape_of c.args.survey.now.fields)
    (boxes_for (shape_of c.args.survey.now.fields) c.loop-field.new left g c.in_ok-code.ensures.0) g) n c.in_ok-code.code) same
    (c.in_ok-code.ensures.2 left blank)))

pub returns : goal.returns
returns c = λ t.
    codes-end c.args.survey.now (target_of (option_copied c.args.donor)) c.args.lines.now c.args.order.now c.args.new.now c.loop-field.new t
    c.loop-field.field-index (take_all c.loop-field.field-index c.args.order.now c.loop-field-test.false)
    (drop_all c.loop-field.field-index c.args.order.now c.loop-field-test.false) (c.loop-field.invariant t)
