use Rattle.std.proofs.Common.{List, ℕ, get_or, sym, ap, ◌∙◌, arith}
use Rattle.edit_line.specs.Reductions.{reduce_derived}
use Rattle.edit_line.specs.Shapes.{shape_of, whole_sets}
use Rattle.edit_line.proofs.OwnLaws.{own-reduced}
use Rattle.edit_line.proofs.ShapeLaws.{number_fields-same}
use Rattle.linear_elim.proofs.ShapeLaws.{OneShape-have, derived-shape}
use Rattle.redundancy.specs.inner.Turns.{number_end}
use Rattle.redundancy.proofs.TurnLoops.{have-reduced, if_none, told-same, walking-ends, walking-over, walking-start, walking-turn}
use Rattle.redundancy.proofs.walk.verdict_of.Goals as goal

pub loop-field-init : goal.loop-field-init
loop-field-init c =
    walking-start (shape_of c.args.survey.now.fields) c.args.row.now c.args.budget (reduce_derived c.args.base.items) c.in_ok-walk.walk.spent
    c.in_ok-walk.walk.history c.in_ok-walk.walk.lines.items c.numbers-field-items.result.now
    (omega (arith, c.if-budget-eq0.false)) (have-reduced (shape_of c.args.survey.now.fields) c.args.base.items c.requires.over) (own-reduced c.args.base.items)
    c.in_ok-walk.ensures.lines c.in_ok-walk.ensures.history c.in_ok-walk.ensures.spent

pub number_turn-requires-clause-shape : goal.number_turn-requires-clause-shape
number_turn-requires-clause-shape c = OneShape-have (shape_of c.args.survey.now.fields) c.loop-field.walk.lines.items c.loop-field.invariant.over

pub number_turn-requires-clause-own : goal.number_turn-requires-clause-own
number_turn-requires-clause-own c = c.loop-field.invariant.own

pub returns-in-Some : goal.returns-in-Some
returns-in-Some c =
    let shape = shape_of c.args.survey.now.fields in
    let old = c.loop-field.walk in
    let wholes = c.deref.ensures.value ∙ c.in_ok-wholes.ensures ∙ ap (λ s. whole_sets s) c.of.ensures in
    walking-ends shape c.args.row.now c.args.budget (reduce_derived c.args.base.items) c.numbers-field-items.result.now c.loop-field.field-index old.spent
    old.history old.lines.items c.loop-field.invariant c.loop-field-test.true c.in-Some.verdict
    (ap (λ (ws : List ℕ). number_end ws c.args.budget old.spent old.history old.lines.items
    (get_or c.numbers-field-items.result.now c.loop-field.field-index 0)) (sym wholes) ∙ sym c.in_ok-verdict.ensures.ended ∙ c.in-Some.is)
    (omega (arith, c.if-budget-eq0.false)) (c.numbers-field-items.ensures ∙ sym (number_fields-same c.args.survey.now.fields))

pub loop-field-preserved : goal.loop-field-preserved
loop-field-preserved c =
    let shape = shape_of c.args.survey.now.fields in
    let old = c.loop-field.walk in
    let new = c.number_turn.new.walk in
    let none = c.in_default.is in
    let wholes = c.deref.ensures.value ∙ c.in_ok-wholes.ensures ∙ ap (λ s. whole_sets s) c.of.ensures in
    walking-turn shape c.args.row.now c.args.budget (reduce_derived c.args.base.items) c.numbers-field-items.result.now c.loop-field.field-index old.spent
    old.history old.lines.items c.loop-field.invariant c.loop-field-test.true
    new.spent new.history new.lines.items
    (ap (λ (ws : List ℕ). number_end ws c.args.budget old.spent old.history old.lines.items
    (get_or c.numbers-field-items.result.now c.loop-field.field-index 0)) (sym wholes) ∙ sym c.in_ok-verdict.ensures.ended ∙ none)
    (if_none _ c.in_ok-verdict.field-0 none c.in_ok-verdict.ensures.lines)
    (if_none _ c.in_ok-verdict.field-0 none c.in_ok-verdict.ensures.history)
    (if_none _ c.in_ok-verdict.field-0 none c.in_ok-verdict.ensures.spent)
    (if_none _ c.in_ok-verdict.field-0 none c.in_ok-verdict.ensures.few)

pub boxes_verdict-requires-clause-over : goal.boxes_verdict-requires-clause-over
boxes_verdict-requires-clause-over c = derived-shape (shape_of c.args.survey.now.fields) c.loop-field.walk.lines.items c.loop-field.invariant.over

pub returns : goal.returns
returns c =
    told-same c.boxes_verdict.result _ _
    (walking-over (shape_of c.args.survey.now.fields) c.args.row.now c.args.budget (reduce_derived c.args.base.items) c.numbers-field-items.result.now
    c.loop-field.field-index c.loop-field.walk.spent c.loop-field.walk.history c.loop-field.walk.lines.items
    c.loop-field.invariant (omega (arith, c.loop-field-test.false)) (c.numbers-field-items.ensures ∙ sym (number_fields-same c.args.survey.now.fields))
    (omega (arith, c.if-budget-eq0.false))) c.boxes_verdict.ensures
