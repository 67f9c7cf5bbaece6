use Rattle.std.proofs.Common.{List, ap, drop, sym, ℕ, ◌+◌, ◌∙◌}
use Rattle.std.specs.List.{fold}
use Rattle.std.proofs.lemmas.List.{at_drop_more}
use Rattle.derivation.specs.declared.step.Step.{Step}
use Rattle.edit_paths.specs.Histories.{maker, step_number, with_step_numbers, with_proof}
use Rattle.edit_paths.specs.Levels.{history_of}
use Rattle.edit_paths.specs.declared.making.Written.{Written}
use Rattle.edit_paths.proofs.HistoryLists.{parts-apart, parts-end, proof-here, proof-there}
use Rattle.edit_paths.proofs.writing.+prove.Goals as goal

pub returns-then-has : goal.returns-then-has
returns-then-has t c =
    proof-there c.args.levels.now c.in-Some.before.now c.in-Some.level.now c.args.place c.in-Some.ensures.cases.0 c.args.done.now c.in-By.step
    (sym c.in_ok-earlier.ensures ∙ c.in-By.is)
    (sym c.has.ensures ∙ c.if-has.true)

pub loop-part-preserved : goal.loop-part-preserved
loop-part-preserved t c = (
  ap (λ (ws : List Written). fold (λ done i. with_proof (history_of c.in-Some.before.now) i done) ws
      (drop (c.loop-part.part-index + 1) c.deref-part-items.result.now)) c.in_ok-prove-in-By.ensures
      ∙ sym (at_drop_more (λ (xs : List ℕ). fold (λ done i. with_proof (history_of c.in-Some.before.now) i done) c.loop-part.done xs)
      c.deref-part-items.result.now c.loop-part.part-index 0 c.loop-part-test.true)
      ∙ c.loop-part.invariant.0,
  c.loop-part.invariant.1,
)

pub push-requires : goal.push-requires
push-requires t c =
    parts-apart c.in-Some.before.now c.args.place c.args.done.now c.loop-part.done c.in_ok-parts-in-By.parts.items (sym c.has.ensures ∙ c.if-has.false)
    (parts-end (history_of c.in-Some.before.now) c.args.done.now c.loop-part.done c.deref-part-items.result.now c.in_ok-parts-in-By.parts.items
    c.loop-part.part-index c.loop-part-test.false c.loop-part.invariant.0 c.deref-part-items.ensures.value)

pub returns-in_ok-push-in-By : goal.returns-in_ok-push-in-By
returns-in_ok-push-in-By t c =
    c.in_ok-push-in-By.ensures
    ∙ proof-here c.args.levels.now c.in-Some.before.now c.in-Some.level.now c.args.place c.in-Some.ensures.cases.0 c.args.done.now c.loop-part.done c.in-By.step
    c.in_ok-step-in-By.step
    (sym c.in_ok-earlier.ensures ∙ c.in-By.is)
    (sym c.has.ensures ∙ c.if-has.false)
    (parts-end (history_of c.in-Some.before.now) c.args.done.now c.loop-part.done c.deref-part-items.result.now _ c.loop-part.part-index c.loop-part-test.false
    c.loop-part.invariant.0 (c.deref-part-items.ensures.value ∙ c.in_ok-parts-in-By.ensures))
    (c.in_ok-step-in-By.ensures ∙ ap (λ (whole : Step). with_step_numbers (λ i. step_number c.loop-part.done (maker (history_of c.in-Some.before.now) i)) whole)
    c.loop-part.invariant.1)
