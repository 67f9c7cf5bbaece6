use Rattle.std.proofs.Common.{◌≡◌, [], ◌∷◌, ◌++◌, ◌+◌, ℕ, List, None, Some, Err, arith, drop, length, map, refl, sym, ap, subst, ◌∙◌}
use Rattle.std.proofs.lemmas.List.{length-map, map-append}
use Rattle.edit_line.specs.Shapes.{shape_of}
use Rattle.derivation.specs.inner.Bases.{premises}
use Rattle.derivation.specs.inner.Meanings.{AllOver, meaning, meant}
use Rattle.derivation.specs.ValidSteps.{proved_by, proved_from}
use Rattle.derivation.specs.declared.known.Known.{Known}
use Rattle.derivation.specs.declared.proved.Proved.{Proved}
use Rattle.derivation.proofs.Soundness.{AllKnown, more-known}
use Rattle.derivation.proofs.StepLoop.{invalid-there, memory-named, named-place, over-known, valid-more}
use Rattle.derivation.proofs.check.known_of.Goals as goal

pub take_step-requires-clause-over : goal.take_step-requires-clause-over
take_step-requires-clause-over c =
    subst (λ (ks : List Known). AllOver (shape_of c.args.basis.now.survey.now.fields) ks) (sym c.deref.ensures.value)
    (over-known (premises c.args.basis.now) c.loop-step.known.items c.loop-step.invariant.1)

pub loop-step-preserved : goal.loop-step-preserved
loop-step-preserved c =
    let p = premises c.args.basis.now in
    let known = c.loop-step.known.items in
    let earlier = map meaning known in
    let one = c.step-item.result in
    let x = meaning c.in-Some.made in
    let steps = c.args.steps.now in
    let i = c.loop-step.step-index in
    let made : Some x ≡ proved_by p earlier one = ap meant (sym c.in-Some.is) ∙ c.in_ok-made.ensures
    ∙ ap (λ (ks : List Known). proved_by p (map meaning ks) one) c.deref.ensures.value in
    let all : map meaning c.push.new.self.items ≡ earlier ++ x ∷ [] = ap (λ (ks : List Known). map meaning ks) c.in_ok-push.ensures.items
    ∙ map-append meaning known (c.in-Some.made ∷ []) in (
      ap (λ (xs : List Proved). proved_from p xs (drop (i + 1) steps)) all ∙ valid-more p steps earlier i _ c.loop-step.invariant.0 one x c.loop-step-test.true
          c.step-item.is made,
      subst (λ (xs : List Proved). AllKnown p xs) (sym all) (more-known p c.args.basis.now.survey.now.fields refl c.requires.row c.requires.kept c.requires.over
          earlier one x c.loop-step.invariant.1 (sym made)),
    )

pub returns-in_err-known-clause-bad : goal.returns-in_err-known-clause-bad
returns-in_err-known-clause-bad c = λ place is. absurd (memory-named c.from_residual.result place c.from_residual.ensures.1 is)

pub returns-in_err-made-clause-bad : goal.returns-in_err-made-clause-bad
returns-in_err-made-clause-bad c = λ place is. absurd (memory-named c.from_residual-in_err-made.result place c.from_residual-in_err-made.ensures.1 is)

pub returns-in_err-push-clause-bad : goal.returns-in_err-push-clause-bad
returns-in_err-push-clause-bad c = λ place is. absurd (memory-named c.from_residual-in_err-push.result place c.from_residual-in_err-push.ensures.1 is)

pub returns-in_default-clause-bad : goal.returns-in_default-clause-bad
returns-in_default-clause-bad c = λ place is.
    let p = premises c.args.basis.now in
    let known = c.loop-step.known.items in
    let one = c.step-item.result in
    let none : None ≡ proved_by p (map meaning known) one = ap meant (sym c.in_default.is) ∙ c.in_ok-made.ensures
    ∙ ap (λ (ks : List Known). proved_by p (map meaning ks) one) c.deref.ensures.value in
    let at : c.len.result ≡ place = named-place _ c.len.result place refl is in
    let many : length (map meaning known) ≡ place = omega (arith, length-map known meaning, c.loop-step.known.ok.0, c.len.ensures, at) in
    invalid-there p c.args.steps.now (map meaning known) c.loop-step.step-index _ c.loop-step.invariant.0 one c.loop-step-test.true c.step-item.is none
    ∙ ap (λ (n : ℕ). Err n) many
