use Rattle.std.proofs.Common.{◌≡◌, [], ◌∷◌, ◌++◌, ◌+◌, ℕ, List, None, Some, Err, drop, length, length-append, refl, sym, ap, subst, ◌∙◌, arith}
use Rattle.edit_line.specs.Lines.{HaveOneShape, LineParts}
use Rattle.derivation.specs.LineLists.{line_by, lines_from, no_record}
use Rattle.derivation.proofs.LineListLaws.{AllLinesKnown, known-follow, known-over, line-missing, line-more, more-lines-known}
use Rattle.derivation.proofs.StepLoop.{memory-named, named-place}
use Rattle.derivation.proofs.listing.line_list.Goals as goal

pub line_of-requires-clause-one_shape : goal.line_of-requires-clause-one_shape
line_of-requires-clause-one_shape c =
    let p = no_record c.args.survey.now c.args.given.now c.args.usable.now in
    subst (λ (lines : List LineParts). HaveOneShape lines) (sym c.deref.ensures.value) (p.shape, known-over p c.loop-step.lines.items c.loop-step.invariant.1)

pub loop-step-preserved : goal.loop-step-preserved
loop-step-preserved c =
    let p = no_record c.args.survey.now c.args.given.now c.args.usable.now in
    let lines = c.loop-step.lines.items in
    let one = c.step-item.result in
    let line = c.in-Some.line in
    let made : Some line ≡ line_by p lines one = sym c.in-Some.is ∙ c.in_ok-line.ensures p refl refl
    ∙ ap (λ (ls : List LineParts). line_by p ls one) c.deref.ensures.value in
    let all : c.push.new.self.items ≡ lines ++ line ∷ [] = c.in_ok-push.ensures.items in (
      ap (λ (ls : List LineParts). lines_from p ls (drop (c.loop-step.step-index + 1) c.args.steps.now)) all
          ∙ line-more p c.args.steps.now lines c.loop-step.step-index _ c.loop-step.invariant.0 one line c.loop-step-test.true c.step-item.is made,
      subst (λ (ls : List LineParts). AllLinesKnown p ls) (sym all) (more-lines-known p c.requires.over lines one line c.loop-step.invariant.1 (sym made)),
      omega (arith, ap length all, length-append lines (line ∷ []), c.loop-step.invariant.2),
    )

pub returns-clause-follow : goal.returns-clause-follow
returns-clause-follow c = known-follow (no_record c.args.survey.now c.args.given.now c.args.usable.now) c.loop-step.lines.items c.loop-step.invariant.1

pub returns-clause-over : goal.returns-clause-over
returns-clause-over c = known-over (no_record c.args.survey.now c.args.given.now c.args.usable.now) c.loop-step.lines.items c.loop-step.invariant.1

pub returns-in_err-lines-clause-bad : goal.returns-in_err-lines-clause-bad
returns-in_err-lines-clause-bad c = λ place is. absurd (memory-named c.from_residual.result place c.from_residual.ensures.1 is)

pub returns-in_err-lines-clause-named : goal.returns-in_err-lines-clause-named
returns-in_err-lines-clause-named c = λ place is. absurd (memory-named c.from_residual.result place c.from_residual.ensures.1 is)

pub returns-in_err-line-clause-bad : goal.returns-in_err-line-clause-bad
returns-in_err-line-clause-bad c = λ place is. absurd (memory-named c.from_residual-in_err-line.result place c.from_residual-in_err-line.ensures.1 is)

pub returns-in_err-line-clause-named : goal.returns-in_err-line-clause-named
returns-in_err-line-clause-named c = λ place is. absurd (memory-named c.from_residual-in_err-line.result place c.from_residual-in_err-line.ensures.1 is)

pub returns-in_err-push-clause-bad : goal.returns-in_err-push-clause-bad
returns-in_err-push-clause-bad c = λ place is. absurd (memory-named c.from_residual-in_err-push.result place c.from_residual-in_err-push.ensures.1 is)

pub returns-in_err-push-clause-named : goal.returns-in_err-push-clause-named
returns-in_err-push-clause-named c = λ place is. absurd (memory-named c.from_residual-in_err-push.result place c.from_residual-in_err-push.ensures.1 is)

pub returns-in_default-clause-bad : goal.returns-in_default-clause-bad
returns-in_default-clause-bad c = λ place is.
    let p = no_record c.args.survey.now c.args.given.now c.args.usable.now in
    let lines = c.loop-step.lines.items in
    let one = c.step-item.result in
    let none : None ≡ line_by p lines one = sym c.in_default.is ∙ c.in_ok-line.ensures p refl refl
    ∙ ap (λ (ls : List LineParts). line_by p ls one) c.deref.ensures.value in
    let at : c.len.result ≡ place = named-place _ c.len.result place refl is in
    let many : length lines ≡ place = omega (arith, c.loop-step.lines.ok.0, c.len.ensures, at) in
    line-missing p c.args.steps.now lines c.loop-step.step-index _ c.loop-step.invariant.0 one c.loop-step-test.true c.step-item.is none
    ∙ ap (λ (n : ℕ). Err n) many
