use Rattle.std.proofs.Common.{◌≡◌, ◌==◌, ℕ, Option, List, drop, length, sym, ap, subst, ◌∙◌, arith}
use Rattle.bound_cert.specs.inner.Tasks.{SaysOfPlace, case}
use Rattle.bound_cert.specs.ValidTrees.{IsFirstFault}
use Rattle.bound_cert.specs.declared.cert.Leaf.{Leaf}
use Rattle.bound_cert.specs.declared.verdict.Verdict.{Verdict}
use Rattle.bound_cert.proofs.FaultLoop.{all-valid, fault-first, goes-more}
use Rattle.bound_cert.proofs.check.check_leaves.Goals as goal

pub returns-in-Invalid-clause-bad : goal.returns-in-Invalid-clause-bad
returns-in-Invalid-clause-bad c =
    let k = case c.args.task.now in
    let leaves = c.args.leaves.now in
    let i = c.loop-place.place in
    λ leaf step same.
    let found = fault-first k leaves i c.loop-place.invariant c.in-Invalid.step (subst (λ (v : Verdict). SaysOfPlace k leaves i (drop i leaves) v)
    c.in-Invalid.is c.in_ok-verdict_at.ensures) in
    let place : i ≡ leaf = cc in
    let named : c.in-Invalid.step ≡ step = cc in
    subst (λ (n : ℕ). IsFirstFault k leaves n step) place (subst (λ (s : Option ℕ). IsFirstFault k leaves i s) named found)

pub loop-place-preserved : goal.loop-place-preserved
loop-place-preserved c =
    let k = case c.args.task.now in
    let leaves = c.args.leaves.now in
    let i = c.loop-place.place in goes-more k leaves i c.loop-place.invariant (subst (λ (v : Verdict). SaysOfPlace k leaves i (drop i leaves) v) c.in-Valid.is
    c.in_ok-verdict_at.ensures)

pub returns-clause-valid : goal.returns-clause-valid
returns-clause-valid c = all-valid (case c.args.task.now) c.args.leaves.now c.loop-place.place (omega (arith, c.loop-place-test.false))
    (λ none. absurd (cc (sym c.if-is_empty.false ∙ c.is_empty.ensures ∙ ap (λ (ls : List Leaf). length ls == 0) none))) c.loop-place.invariant
