use Rattle.std.proofs.Common.{◌≡◌, ◌+◌, List, drop, get_or, [], Err, ap, arith, sym, ◌∙◌}
use Rattle.edit_line.proofs.SumCallers.{numbers-agreed}
use Rattle.edit_line.specs.Shapes.{shape_of}
use Rattle.categ_combine.specs.BoxLists.{sets_of}
use Rattle.categ_combine.specs.FailingBoxes.{failing_from}
use Rattle.categ_combine.specs.declared.box_from.BoxFrom.{BoxFrom}
use Rattle.categ_combine.proofs.ApartLaws.{apart-failing}
use Rattle.categ_combine.proofs.AvoidLaws.{failing-avoids}
use Rattle.categ_combine.proofs.BoxOrigins.{failing-comes}
use Rattle.categ_combine.proofs.FailingLaws.{failing-end, failing-fault, failing-faults, failing-next, failing-sets}
use Rattle.categ_combine.proofs.OverLaws.{over-failing}
use Rattle.std.proofs.lemmas.Grind.{common_steps}
use Rattle.categ_combine.proofs.failing.boxes_of.Goals as goal

pub returns-in-Err-clause-overflow : goal.returns-in-Err-clause-overflow
returns-in-Err-clause-overflow c = λ line field told.
    let first = sym c.loop-i.invariant ∙ failing-fault c.args.lines.now c.args.row.now c.loop-i.kept.items c.loop-i.i c.in-Err.overflow.field
    c.index-lines-i.result c.loop-i-test.true c.index-lines-i.is c.in-Err.ensures.overflow in
    let same_line : c.loop-i.i ≡ line = cc in
    let same_field : c.in-Err.overflow.field ≡ field = cc in
    first ∙ ap (λ n. Err (record { line = n; field = c.in-Err.overflow.field })) same_line ∙ ap (λ n. Err (record { line = line; field = n })) same_field

pub returns-in-Err-clause-overflow_sets : goal.returns-in-Err-clause-overflow_sets
returns-in-Err-clause-overflow_sets c =
    λ line field told. failing-faults c.args.lines.now c.args.row.now (record { line = line; field = field }) (returns-in-Err-clause-overflow c line field told)

pub returns-clause-origins : goal.returns-clause-origins
returns-clause-origins c =
    failing-comes c.args.lines.now c.args.row.now c.loop-i.kept.items
    (sym c.loop-i.invariant ∙ failing-end c.args.lines.now c.args.row.now c.loop-i.kept.items c.loop-i.i (omega arith))

pub loop-i-preserved : goal.loop-i-preserved
loop-i-preserved c =
    ap (λ (bs : List BoxFrom). failing_from (c.loop-i.i + 1) (drop (c.loop-i.i + 1) c.args.lines.now) c.args.row.now bs) c.in_ok-take_line-in-Ok.ensures
    ∙ failing-next c.args.lines.now c.args.row.now c.loop-i.kept.items c.loop-i.i c.index-lines-i.result c.in-Ok.failed c.loop-i-test.true
    c.index-lines-i.is c.in-Ok.ensures.answer
    ∙ c.loop-i.invariant

pub returns-clause-over : goal.returns-clause-over
returns-clause-over c =
    over-failing (shape_of c.args.survey.now.fields) 0 c.args.lines.now c.args.row.now [] c.loop-i.kept.items c.requires.shape
    (λ k d below. absurd (omega arith))
    (sym c.loop-i.invariant ∙ failing-end c.args.lines.now c.args.row.now c.loop-i.kept.items c.loop-i.i (omega arith))

pub returns-clause-sets : goal.returns-clause-sets
returns-clause-sets c =
    failing-sets c.args.lines.now c.args.row.now c.loop-i.kept.items
    (sym c.loop-i.invariant ∙ failing-end c.args.lines.now c.args.row.now c.loop-i.kept.items c.loop-i.i (omega arith))

pub returns-clause-forbid : goal.returns-clause-forbid
returns-clause-forbid c = λ p agree.
    let made = failing-sets c.args.lines.now c.args.row.now c.loop-i.kept.items
    (sym c.loop-i.invariant ∙ failing-end c.args.lines.now c.args.row.now c.loop-i.kept.items c.loop-i.i (omega arith)) in
    failing-avoids (shape_of c.args.survey.now.fields) c.args.row.now p c.args.lines.now (sets_of c.loop-i.kept.items) c.requires.shape
    (λ k d below. numbers-agreed c.args.survey.now.fields c.args.row.now (get_or c.args.lines.now k d).line p (c.requires.shape k d below)
    c.requires.row (agree k d below)) agree made

pub returns-clause-apart : goal.returns-clause-apart
returns-clause-apart c =
    apart-failing 0 c.args.lines.now c.args.row.now [] c.loop-i.kept.items tt
    (sym c.loop-i.invariant ∙ failing-end c.args.lines.now c.args.row.now c.loop-i.kept.items c.loop-i.i (omega arith))

pub returns-clause-exact : goal.returns-clause-exact
returns-clause-exact c = grind (arith, common_steps)
