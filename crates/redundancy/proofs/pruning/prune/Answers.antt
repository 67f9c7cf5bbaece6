use Rattle.std.proofs.Common.{◌≡◌, ◌-◌, suc, ℕ, length, refl, ◌∙◌, subst, arith}
use Rattle.redundancy.proofs.BaseLaws.{IsTried, get-at, tried-count, tried-start, tried-turn, trues-are}
use Rattle.redundancy.proofs.PruneLaws.{told-equalities, told-follow, told-needed, told-steps}
use Rattle.redundancy.proofs.pruning.prune.Goals as goal

pub loop-place-init : goal.loop-place-init
loop-place-init c =
    tried-start c.args.survey.now c.args.lines.now c.args.budget c.in_ok-left.left.items c.new-verdicts.result.items (length c.args.lines.now) refl
    (c.in_ok-left.ensures.items_if_clones_equal (λ y e. e) ∙ trues-are (length c.args.lines.now)) c.new-verdicts.ensures.items

pub try_line-requires-clause-count : goal.try_line-requires-clause-count
try_line-requires-clause-count c = tried-count c.args.survey.now c.args.lines.now c.args.budget c.loop-place.place c.loop-place.left.items
    c.loop-place.verdicts.items c.loop-place.invariant

pub loop-place-preserved : goal.loop-place-preserved
loop-place-preserved c =
    let survey = c.args.survey.now in
    let lines = c.args.lines.now in
    let place = c.loop-place.place - 1 in
    let next : c.loop-place.place ≡ suc (c.loop-place.place - 1) = omega (arith, c.loop-place-test.true) in
    let (line, at) = get-at (c.loop-place.place - 1) lines (omega (arith, c.loop-place.invariant.within, c.loop-place-test.true)) in
    tried-turn survey lines c.args.budget place c.loop-place.left.items c.loop-place.verdicts.items
    (subst (λ (n : ℕ). IsTried survey lines c.args.budget n c.loop-place.left.items c.loop-place.verdicts.items) next c.loop-place.invariant) line at
    c.in_ok-verdict.verdict c.try_line.new.left.items c.insert.new.self.items (c.in_ok-verdict.ensures.verdict line at) c.in_ok-verdict.ensures.left
    c.in_ok-insert.ensures.items

pub returns-clause-equalities : goal.returns-clause-equalities
returns-clause-equalities c = λ j line.
    told-equalities c.args.survey.now c.args.lines.now c.args.budget c.loop-place.place c.loop-place.left.items c.loop-place.verdicts.items
    c.loop-place.invariant (omega (arith, c.loop-place-test.false))
    c.fields-well_formed.ensures.well_formed.fields c.requires.over c.read_lines.ensures j line

pub returns-clause-needed : goal.returns-clause-needed
returns-clause-needed c = λ j line.
    told-needed c.args.survey.now c.args.lines.now c.args.budget c.loop-place.place c.loop-place.left.items c.loop-place.verdicts.items c.loop-place.invariant
    (omega (arith, c.loop-place-test.false))
    c.fields-well_formed.ensures.well_formed.fields c.requires.over c.read_lines.ensures j line

pub returns-clause-steps : goal.returns-clause-steps
returns-clause-steps c = λ j line steps.
    told-steps c.args.survey.now c.args.lines.now c.args.budget c.loop-place.place c.loop-place.left.items c.loop-place.verdicts.items c.loop-place.invariant
    (omega (arith, c.loop-place-test.false))
    c.fields-well_formed.ensures.well_formed.fields c.requires.over c.read_lines.ensures j line steps

pub returns-clause-follow : goal.returns-clause-follow
returns-clause-follow c = λ line.
    told-follow c.args.survey.now c.args.lines.now c.args.budget c.loop-place.place c.loop-place.left.items c.loop-place.verdicts.items c.loop-place.invariant
    (omega (arith, c.loop-place-test.false))
    c.fields-well_formed.ensures.well_formed.fields c.requires.over c.read_lines.ensures line
