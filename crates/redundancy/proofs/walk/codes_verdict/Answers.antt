use Rattle.std.proofs.Common.{List, ℕ, get_or, sym, ap, ◌∙◌}
use Rattle.edit_line.specs.Shapes.{shape_of}
use Rattle.edit_line.proofs.ShapeLaws.{code_fields-same}
use Rattle.redundancy.specs.inner.Turns.{code_walk}
use Rattle.redundancy.proofs.TurnLoops.{coding-ends, coding-takes, coding-turn, if_none}
use Rattle.redundancy.proofs.walk.codes_verdict.Goals as goal

pub loop-field-init : goal.loop-field-init
loop-field-init c =
    let fields = c.args.survey.now.fields in
    record {
      over = c.requires.over;
      rest = ap (λ (fs : List ℕ). code_walk (shape_of fields) c.args.budget c.args.walk.spent c.args.walk.history c.args.walk.boxes.items fs)
          (c.codes-field-items.ensures ∙ sym (code_fields-same fields));
      few = c.requires.spent;
    }

pub code_turn-requires-clause-field : goal.code_turn-requires-clause-field
code_turn-requires-clause-field c =
    let fields = c.args.survey.now.fields in (
      shape_of fields,
      c.loop-field.invariant.over,
      coding-takes fields c.fields-well_formed.ensures.well_formed.fields c.args.budget _ c.codes-field-items.result.now
          (c.codes-field-items.ensures ∙ sym (code_fields-same fields)) c.loop-field.field-index c.loop-field.walk.spent c.loop-field.walk.history
          c.loop-field.walk.boxes.items c.loop-field.invariant c.loop-field-test.true,
    )

pub returns-in-Some : goal.returns-in-Some
returns-in-Some c =
    let fields = c.args.survey.now.fields in
    let codes = c.codes-field-items.result.now in
    let are = c.codes-field-items.ensures ∙ sym (code_fields-same fields) in
    let takes = coding-takes fields c.fields-well_formed.ensures.well_formed.fields c.args.budget _ codes are c.loop-field.field-index c.loop-field.walk.spent
    c.loop-field.walk.history c.loop-field.walk.boxes.items c.loop-field.invariant c.loop-field-test.true in
    coding-ends fields c.fields-well_formed.ensures.well_formed.fields c.args.budget _ codes are c.loop-field.field-index c.loop-field.walk.spent
    c.loop-field.walk.history c.loop-field.walk.boxes.items c.loop-field.invariant c.loop-field-test.true
    c.in-Some.verdict (sym (c.in_ok-verdict.ensures.ended (shape_of fields) c.requires.wholes c.loop-field.invariant.over takes) ∙ c.in-Some.is)

pub loop-field-preserved : goal.loop-field-preserved
loop-field-preserved c =
    let fields = c.args.survey.now.fields in
    let codes = c.codes-field-items.result.now in
    let are = c.codes-field-items.ensures ∙ sym (code_fields-same fields) in
    let old = c.loop-field.walk in
    let new = c.code_turn.new.walk in
    let f = get_or codes c.loop-field.field-index 0 in
    let over = c.loop-field.invariant.over in
    let takes = coding-takes fields c.fields-well_formed.ensures.well_formed.fields c.args.budget _ codes are c.loop-field.field-index old.spent old.history
    old.boxes.items c.loop-field.invariant c.loop-field-test.true in
    let none = c.in_default.is in
    coding-turn fields c.fields-well_formed.ensures.well_formed.fields c.args.budget _ codes are c.loop-field.field-index old.spent old.history old.boxes.items
    c.loop-field.invariant c.loop-field-test.true
    new.spent new.history new.boxes.items
    (sym (c.in_ok-verdict.ensures.ended (shape_of fields) c.requires.wholes over takes) ∙ none)
    (if_none _ c.in_ok-verdict.field-0 none c.in_ok-verdict.ensures.boxes (shape_of fields) over takes)
    (if_none _ c.in_ok-verdict.field-0 none c.in_ok-verdict.ensures.history)
    (if_none _ c.in_ok-verdict.field-0 none c.in_ok-verdict.ensures.spent (shape_of fields) over takes)
    (if_none _ c.in_ok-verdict.field-0 none c.in_ok-verdict.ensures.few)
