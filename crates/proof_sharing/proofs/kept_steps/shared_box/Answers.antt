use Rattle.std.proofs.Common.{◌≡◌, ◌∷◌, ◌++◌, [], ◌+◌, ◌<◌, ℕ, Option, length, length-append, slice_index_or, drop, false, ap, ◌∙◌, arith}
use Rattle.std.proofs.Common.{rules}
use Rattle.std.specs.Vec.{vec_len}
use Rattle.derivation.specs.SharedLines.{and_kept, is_failed, kept_from, kept_step}
use Rattle.derivation.specs.declared.step.Step.{Step}
use Rattle.proof_sharing.proofs.SharingLoops.{kept-more}
use Rattle.proof_sharing.proofs.kept_steps.shared_box.Goals as goal

pub loop-step-preserved : goal.loop-step-preserved
loop-step-preserved c =
    let steps = c.args.steps.now in
    let new = c.loop-step.new.items in
    let kept = c.loop-step.kept.items in
    let one = c.step-item.result in
    let new_long : vec_len c.loop-step.new ≡ length new = search rules in
    let kept_long : vec_len c.loop-step.kept ≡ length kept = search rules in
    let at : c.len-at.result ≡ length new = c.len-at.ensures ∙ new_long in
    let below : length new < length steps = omega (arith, c.loop-step.invariant.1, c.loop-step-test.true) in
    let fails : c.flag_at-is_failed.result ≡ is_failed steps (length new) =
    c.flag_at-is_failed.ensures ∙ (λ i. slice_index_or (c.as_slice.ensures.value i) (at i) false) ∙ c.in_ok-failed.ensures.each (length new) below in
    let place : c.number_at-place.result ≡ slice_index_or c.args.places.now (length new) 0 = c.number_at-place.ensures
    ∙ ap (λ (k : ℕ). slice_index_or c.args.places.now k 0) at in
    let made : c.in_ok-one.one ≡ kept_step c.args.given (is_failed steps (length new)) (slice_index_or c.args.places.now (length new) 0) new one =
    c.in_ok-one.ensures ∙ (λ i. kept_step c.args.given (fails i) (place i) (c.as_slice-in-loop-step.ensures.value i) one) in
    let longer : c.push.new.self.items ≡ new ++ length kept ∷ [] = c.in_ok-push.ensures.items ∙ ap (λ (k : ℕ). new ++ k ∷ []) (c.len.ensures ∙ kept_long) in
    let more : c.push_kept.new.kept.items
    ≡ and_kept kept (kept_step c.args.given (is_failed steps (length new)) (slice_index_or c.args.places.now (length new) 0) new one) =
    c.in_ok-push_kept.ensures ∙ ap (λ (o : Option Step). and_kept kept o) made in (
      (λ i. kept_from c.args.given (is_failed steps) c.args.places.now (longer i) (more i) (drop (c.loop-step.step-index + 1) steps))
          ∙ kept-more c.args.given (is_failed steps) c.args.places.now new kept steps c.loop-step.step-index one _ c.loop-step-test.true c.step-item.is
          c.loop-step.invariant.0,
      omega (arith, ap length longer, length-append new (length kept ∷ []), c.loop-step.invariant.1),
    )
