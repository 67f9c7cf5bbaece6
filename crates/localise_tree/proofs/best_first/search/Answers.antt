use Rattle.std.proofs.Common.{◌≡◌, ◌≤◌, ◌-◌, Bool, List, Option, IfSome, ap, ◌∙◌, sym, subst, arith}
use Rattle.std.specs.List.{AllByRecursion}
use Rattle.std.proofs.lemmas.Result.{IfOk-from_err}
use Rattle.bound_cert.specs.declared.outcome.Outcome.TheVariants as outcome
use Rattle.edit_paths.specs.declared.state.PathState.TheVariants.{Open}
use Rattle.path_walk.specs.KeptFields.{KeepsChanged}
use Rattle.path_walk.specs.Looks.{IsLook}
use Rattle.path_walk.specs.Problems.{case_in}
use Rattle.path_walk.specs.declared.looks.Look.{Look}
use Rattle.localise_tree.specs.declared.best_first.Taken.{Taken}
use Rattle.localise_tree.specs.inner.Takens.{IsTaken, taken_paths}
use Rattle.localise_tree.proofs.PlaceLaws.{rest-order}
use Rattle.localise_tree.proofs.SearchLaws.{change-kept, first-kept, first-node, kept-later, none-is, none-of, path-later}
use Rattle.localise_tree.proofs.SearchLaws.{run-budget, run-ends, run-less, run-turn}
use Rattle.localise_tree.proofs.best_first.search.Goals as goal

pub returns-in_default-2-clause-exact : goal.returns-in_default-2-clause-exact
returns-in_default-2-clause-exact g c =
    ap (λ (p : List Bool). outcome.Budget p c.loop-node.spent) c.into_path.ensures
    ∙ run-budget (case_in c.args.problem.now) c.args.budget c.loop-node.spent c.loop-node.taken.paths.items c.loop-node.ends.items c.take_first.new.ends.items
    c.in-Some.node c.loop-node.invariant.0 c.in-Some.ensures.some
    (none-of _ c.in_ok-look.field-0 c.in_default-2.not-Some c.in_ok-look.ensures.passed)

pub returns-in-Some-3-clause-exact : goal.returns-in-Some-3-clause-exact
returns-in-Some-3-clause-exact g c =
    let look = subst (λ (o : Option Look). IfSome o (λ look. IsLook (case_in c.args.problem.now) c.in-Some.node.path look
    × (look.work ≤ c.args.budget - c.loop-node.spent))) c.in-Some-2.is c.in_ok-look.ensures.look in
    run-ends (case_in c.args.problem.now) c.args.budget c.loop-node.spent c.loop-node.taken.paths.items c.loop-node.ends.items c.take_first.new.ends.items
    c.in-Some.node c.loop-node.invariant.0 c.in-Some.ensures.some c.in-Some-2.look.work c.in-Some-2.look.state c.deref.result.now c.in_ok-outcome.field-0
    look.0.work look.1 look.0.state c.deref.ensures.value c.in_ok-outcome.ensures.end c.in-Some-3.outcome c.in-Some-3.is

pub returns-in-Some-3-clause-kept : goal.returns-in-Some-3-clause-kept
returns-in-Some-3-clause-kept g c =
    let kept = subst (λ (o : Option Look). IfSome o (λ look. look.state ≡ Open
    → KeepsChanged (g.S.Systems.keeps c.look_into.new.source) (case_in c.args.problem.now) c.in-Some.node.path)) c.in-Some-2.is c.in_ok-look.ensures.kept in
    change-kept (case_in c.args.problem.now) (taken_paths c.deref.result.now) c.in-Some.node.path c.in-Some-2.look.state c.in_ok-outcome.field-0
    c.in-Some-3.outcome (g.S.Systems.keeps c.look_into.new.source) (g.S.Systems.keeps c.end_by.new.source)
    c.in_ok-outcome.ensures.end c.in-Some-3.is c.in_ok-outcome.ensures.keeps kept

pub loop-node-smaller : goal.loop-node-smaller
loop-node-smaller g c =
    let look = subst (λ (o : Option Look). IfSome o (λ look. IsLook (case_in c.args.problem.now) c.in-Some.node.path look
    × (look.work ≤ c.args.budget - c.loop-node.spent))) c.in-Some-2.is c.in_ok-look.ensures.look in
    run-less (case_in c.args.problem.now) c.args.budget c.loop-node.spent c.loop-node.taken.paths.items c.loop-node.ends.items c.take_first.new.ends.items
    c.in-Some.node c.loop-node.invariant.0 c.in-Some.ensures.some c.in-Some-2.look.work c.in-Some-2.look.state c.deref.result.now c.in_ok-outcome.field-0
    look.0.work look.1 look.0.state c.deref.ensures.value c.in_ok-outcome.ensures.end c.take_up.new.ends.items c.in_ok-take_up.ensures.paths

pub loop-node-preserved : goal.loop-node-preserved
loop-node-preserved g c =
    let look = subst (λ (o : Option Look). IfSome o (λ look. IsLook (case_in c.args.problem.now) c.in-Some.node.path look
    × (look.work ≤ c.args.budget - c.loop-node.spent))) c.in-Some-2.is c.in_ok-look.ensures.look in
    let kept = subst (λ (o : Option Look). IfSome o (λ look. look.state ≡ Open
    → KeepsChanged (g.S.Systems.keeps c.look_into.new.source) (case_in c.args.problem.now) c.in-Some.node.path)) c.in-Some-2.is c.in_ok-look.ensures.kept in
    let rest = (first-kept (case_in c.args.problem.now) (g.S.Systems.keeps c.loop-node.source) c.loop-node.ends.items c.take_first.new.ends.items
    c.in-Some.node c.in-Some.ensures.some c.loop-node.invariant.1).1 in (
      run-turn (case_in c.args.problem.now) c.args.budget c.loop-node.spent c.loop-node.taken.paths.items c.loop-node.ends.items c.take_first.new.ends.items
          c.in-Some.node c.loop-node.invariant.0 c.in-Some.ensures.some c.in-Some-2.look.work c.in-Some-2.look.state c.deref.result.now c.in_ok-outcome.field-0
          look.0.work look.1 look.0.state c.deref.ensures.value c.in_ok-outcome.ensures.end c.take_up.new.ends.items c.in_ok-take_up.ensures.paths
          (none-is c.in_ok-outcome.field-0 c.in_default-3.not-Some) c.in_ok-take_up.ensures.nodes c.in_ok-take_up.ensures.taken.0
          c.in_ok-take_up.ensures.taken.1 c.take_up.new.taken.paths.items c.in_ok-take_up.ensures.taken.2,
      c.in_ok-take_up.ensures.kept (g.S.Systems.keeps c.end_by.new.source)
          (λ opened. path-later (case_in c.args.problem.now) (g.S.Systems.keeps c.look_into.new.source) (g.S.Systems.keeps c.end_by.new.source)
          c.in-Some.node.path c.in_ok-outcome.ensures.keeps (kept opened))
          (kept-later (case_in c.args.problem.now) (g.S.Systems.keeps c.loop-node.source) (g.S.Systems.keeps c.end_by.new.source)
          (λ f h. c.in_ok-outcome.ensures.keeps f (c.in_ok-look.ensures.keeps f h)) c.take_first.new.ends.items rest),
      λ e h. c.in_ok-outcome.ensures.serves e (c.in_ok-look.ensures.serves e (c.loop-node.invariant.2 e h)),
      λ f h. c.in_ok-outcome.ensures.keeps f (c.in_ok-look.ensures.keeps f (c.loop-node.invariant.3 f h)),
      omega (arith, c.loop-node.invariant.4, c.in_ok-look.ensures.counts, c.in_ok-outcome.ensures.counts),
    )

pub take_up-requires-clause-order : goal.take_up-requires-clause-order
take_up-requires-clause-order g c =
    rest-order (case_in c.args.problem.now) c.loop-node.ends.items c.take_first.new.ends.items c.in-Some.node c.in-Some.ensures.some
    c.loop-node.invariant.0.searching.sorted

pub look_into-requires-clause-fit : goal.look_into-requires-clause-fit
look_into-requires-clause-fit g c =
    (first-node (case_in c.args.problem.now) c.loop-node.ends.items c.take_first.new.ends.items c.in-Some.node c.in-Some.ensures.some
    c.loop-node.invariant.0.nodes).0.fit

pub look_into-requires-clause-reached : goal.look_into-requires-clause-reached
look_into-requires-clause-reached g c =
    (first-node (case_in c.args.problem.now) c.loop-node.ends.items c.take_first.new.ends.items c.in-Some.node c.in-Some.ensures.some
    c.loop-node.invariant.0.nodes).0.reached

pub look_into-requires-clause-basis : goal.look_into-requires-clause-basis
look_into-requires-clause-basis g c =
    (first-node (case_in c.args.problem.now) c.loop-node.ends.items c.take_first.new.ends.items c.in-Some.node c.in-Some.ensures.some
    c.loop-node.invariant.0.nodes).0.basis

pub look_into-requires-clause-before : goal.look_into-requires-clause-before
look_into-requires-clause-before g c =
    (first-kept (case_in c.args.problem.now) (g.S.Systems.keeps c.loop-node.source) c.loop-node.ends.items c.take_first.new.ends.items c.in-Some.node
    c.in-Some.ensures.some c.loop-node.invariant.1).0

pub end_by-requires-clause-taken : goal.end_by-requires-clause-taken
end_by-requires-clause-taken g c =
    subst (λ (ts : List Taken). AllByRecursion (IsTaken (case_in c.args.problem.now)) ts) (sym c.deref.ensures.value) c.loop-node.invariant.0.taken_are

pub end_by-requires-clause-node : goal.end_by-requires-clause-node
end_by-requires-clause-node g c =
    (first-node (case_in c.args.problem.now) c.loop-node.ends.items c.take_first.new.ends.items c.in-Some.node c.in-Some.ensures.some
    c.loop-node.invariant.0.nodes).0

pub take_up-requires-clause-node : goal.take_up-requires-clause-node
take_up-requires-clause-node g c =
    (first-node (case_in c.args.problem.now) c.loop-node.ends.items c.take_first.new.ends.items c.in-Some.node c.in-Some.ensures.some
    c.loop-node.invariant.0.nodes).0

pub take_up-requires-clause-look : goal.take_up-requires-clause-look
take_up-requires-clause-look g c =
    (subst (λ (o : Option Look). IfSome o (λ look. IsLook (case_in c.args.problem.now) c.in-Some.node.path look
    × (look.work ≤ c.args.budget - c.loop-node.spent))) c.in-Some-2.is c.in_ok-look.ensures.look).0

pub take_up-requires-clause-ends : goal.take_up-requires-clause-ends
take_up-requires-clause-ends g c =
    (first-node (case_in c.args.problem.now) c.loop-node.ends.items c.take_first.new.ends.items c.in-Some.node c.in-Some.ensures.some
    c.loop-node.invariant.0.nodes).1

pub returns-in_err-look-clause-serves : goal.returns-in_err-look-clause-serves
returns-in_err-look-clause-serves g c e h = c.look_into.ensures.serves e (c.loop-node.invariant.2 e (c.first_end.ensures.serves e h))

pub returns-in_err-look-clause-keeps : goal.returns-in_err-look-clause-keeps
returns-in_err-look-clause-keeps g c f h = c.look_into.ensures.keeps f (c.loop-node.invariant.3 f (c.first_end.ensures.keeps f h))

pub returns-in_err-look-clause-counts : goal.returns-in_err-look-clause-counts
returns-in_err-look-clause-counts g c = omega (arith, c.first_end.ensures.counts, c.loop-node.invariant.4, c.look_into.ensures.counts)

pub returns-in_default-2-clause-serves : goal.returns-in_default-2-clause-serves
returns-in_default-2-clause-serves g c e h = c.look_into.ensures.serves e (c.loop-node.invariant.2 e (c.first_end.ensures.serves e h))

pub returns-in_default-2-clause-keeps : goal.returns-in_default-2-clause-keeps
returns-in_default-2-clause-keeps g c f h = c.look_into.ensures.keeps f (c.loop-node.invariant.3 f (c.first_end.ensures.keeps f h))

pub returns-in_default-2-clause-counts : goal.returns-in_default-2-clause-counts
returns-in_default-2-clause-counts g c = omega (arith, c.first_end.ensures.counts, c.loop-node.invariant.4, c.look_into.ensures.counts)

pub returns-in_err-outcome-clause-serves : goal.returns-in_err-outcome-clause-serves
returns-in_err-outcome-clause-serves g c e h =
    c.end_by.ensures.serves e (c.look_into.ensures.serves e (c.loop-node.invariant.2 e (c.first_end.ensures.serves e h)))

pub returns-in_err-outcome-clause-keeps : goal.returns-in_err-outcome-clause-keeps
returns-in_err-outcome-clause-keeps g c f h = c.end_by.ensures.keeps f (c.look_into.ensures.keeps f (c.loop-node.invariant.3 f (c.first_end.ensures.keeps f h)))

pub returns-in_err-outcome-clause-counts : goal.returns-in_err-outcome-clause-counts
returns-in_err-outcome-clause-counts g c =
    omega (arith, c.first_end.ensures.counts, c.loop-node.invariant.4, c.look_into.ensures.counts, c.end_by.ensures.counts)

pub returns-in-Some-3-clause-serves : goal.returns-in-Some-3-clause-serves
returns-in-Some-3-clause-serves g c e h = c.end_by.ensures.serves e (c.look_into.ensures.serves e (c.loop-node.invariant.2 e (c.first_end.ensures.serves e h)))

pub returns-in-Some-3-clause-keeps : goal.returns-in-Some-3-clause-keeps
returns-in-Some-3-clause-keeps g c f h = c.end_by.ensures.keeps f (c.look_into.ensures.keeps f (c.loop-node.invariant.3 f (c.first_end.ensures.keeps f h)))

pub returns-in-Some-3-clause-counts : goal.returns-in-Some-3-clause-counts
returns-in-Some-3-clause-counts g c = omega (arith, c.first_end.ensures.counts, c.loop-node.invariant.4, c.look_into.ensures.counts, c.end_by.ensures.counts)

pub returns-in_err-take_up-clause-serves : goal.returns-in_err-take_up-clause-serves
returns-in_err-take_up-clause-serves g c e h =
    c.end_by.ensures.serves e (c.look_into.ensures.serves e (c.loop-node.invariant.2 e (c.first_end.ensures.serves e h)))

pub returns-in_err-take_up-clause-keeps : goal.returns-in_err-take_up-clause-keeps
returns-in_err-take_up-clause-keeps g c f h = c.end_by.ensures.keeps f (c.look_into.ensures.keeps f (c.loop-node.invariant.3 f (c.first_end.ensures.keeps f h)))

pub returns-in_err-take_up-clause-counts : goal.returns-in_err-take_up-clause-counts
returns-in_err-take_up-clause-counts g c =
    omega (arith, c.first_end.ensures.counts, c.loop-node.invariant.4, c.look_into.ensures.counts, c.end_by.ensures.counts)

pub returns-in_err-certificate-clause-serves : goal.returns-in_err-certificate-clause-serves
returns-in_err-certificate-clause-serves g c e h = c.certificate.ensures.serves e (c.loop-node.invariant.2 e (c.first_end.ensures.serves e h))

pub returns-in_err-certificate-clause-keeps : goal.returns-in_err-certificate-clause-keeps
returns-in_err-certificate-clause-keeps g c f h = c.certificate.ensures.keeps f (c.loop-node.invariant.3 f (c.first_end.ensures.keeps f h))

pub returns-in_err-certificate-clause-counts : goal.returns-in_err-certificate-clause-counts
returns-in_err-certificate-clause-counts g c = omega (arith, c.first_end.ensures.counts, c.loop-node.invariant.4, c.certificate.ensures.counts)

pub returns-clause-serves : goal.returns-clause-serves
returns-clause-serves g c e h = c.certificate.ensures.serves e (c.loop-node.invariant.2 e (c.first_end.ensures.serves e h))

pub returns-clause-keeps : goal.returns-clause-keeps
returns-clause-keeps g c f h = c.certificate.ensures.keeps f (c.loop-node.invariant.3 f (c.first_end.ensures.keeps f h))

pub returns-clause-counts : goal.returns-clause-counts
returns-clause-counts g c = omega (arith, c.first_end.ensures.counts, c.loop-node.invariant.4, c.certificate.ensures.counts)

pub look_into-requires-clause-served : goal.look_into-requires-clause-served
look_into-requires-clause-served g c = c.loop-node.invariant.2 _ (c.first_end.ensures.serves _ c.requires.served)

pub end_by-requires-clause-served : goal.end_by-requires-clause-served
end_by-requires-clause-served g c = c.look_into.ensures.serves _ (c.loop-node.invariant.2 _ (c.first_end.ensures.serves _ c.requires.served))

pub certificate-requires-clause-served : goal.certificate-requires-clause-served
certificate-requires-clause-served g c = c.loop-node.invariant.2 _ (c.first_end.ensures.serves _ c.requires.served)

pub certificate-requires-clause-taken : goal.certificate-requires-clause-taken
certificate-requires-clause-taken g c =
    subst (λ (ts : List Taken). AllByRecursion (IsTaken (case_in c.args.problem.now)) ts) (sym c.deref-2.ensures.value) c.loop-node.invariant.0.taken_are

pub returns-in_err-ends-clause-exact : goal.returns-in_err-ends-clause-exact
returns-in_err-ends-clause-exact g c = IfOk-from_err _ _ c.from_residual.ensures.0

pub returns-in_err-ends-clause-kept : goal.returns-in_err-ends-clause-kept
returns-in_err-ends-clause-kept g c = IfOk-from_err _ _ c.from_residual.ensures.0

pub returns-in_err-look-clause-exact : goal.returns-in_err-look-clause-exact
returns-in_err-look-clause-exact g c = IfOk-from_err _ _ c.from_residual-in_err-look.ensures.0

pub returns-in_err-look-clause-kept : goal.returns-in_err-look-clause-kept
returns-in_err-look-clause-kept g c = IfOk-from_err _ _ c.from_residual-in_err-look.ensures.0

pub returns-in_err-outcome-clause-exact : goal.returns-in_err-outcome-clause-exact
returns-in_err-outcome-clause-exact g c = IfOk-from_err _ _ c.from_residual-in_err-outcome.ensures.0

pub returns-in_err-outcome-clause-kept : goal.returns-in_err-outcome-clause-kept
returns-in_err-outcome-clause-kept g c = IfOk-from_err _ _ c.from_residual-in_err-outcome.ensures.0

pub returns-in_err-take_up-clause-exact : goal.returns-in_err-take_up-clause-exact
returns-in_err-take_up-clause-exact g c = IfOk-from_err _ _ c.from_residual-in_err-take_up.ensures.0

pub returns-in_err-take_up-clause-kept : goal.returns-in_err-take_up-clause-kept
returns-in_err-take_up-clause-kept g c = IfOk-from_err _ _ c.from_residual-in_err-take_up.ensures.0

pub returns-in_err-certificate-clause-exact : goal.returns-in_err-certificate-clause-exact
returns-in_err-certificate-clause-exact g c = IfOk-from_err _ _ c.from_residual-in_err-certificate.ensures.0

pub returns-in_err-certificate-clause-kept : goal.returns-in_err-certificate-clause-kept
returns-in_err-certificate-clause-kept g c = IfOk-from_err _ _ c.from_residual-in_err-certificate.ensures.0
