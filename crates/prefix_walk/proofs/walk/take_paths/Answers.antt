use Rattle.std.proofs.Common.{◌≡◌, ◌-◌, ◌<◌, ◌+◌, Bool, List, take, refl, subst, sym, ◌∙◌, arith}
use Rattle.edit_paths.specs.Works.{work_of}
use Rattle.path_walk.specs.KeptFields.{KeepsChanged}
use Rattle.path_walk.specs.Lists.{HasLists}
use Rattle.path_walk.specs.Looks.{IsLook, KeepsOpen, TellsLook}
use Rattle.path_walk.specs.Problems.{case_in}
use Rattle.prefix_walk.proofs.PrefixTurns.{budget-end, closes-here, ends-open, goes-on, kept-on, none-of, stays-open, stops-here}
use Rattle.prefix_walk.proofs.walk.take_paths.Goals as goal

pub returns-in_default-clause-exact : goal.returns-in_default-clause-exact
returns-in_default-clause-exact g c =
    let case = case_in c.args.problem.now in
    let w = c.args.walk.now in
    let prefix : c.new-prefix.result ≡ take c.loop-count.count w.path.now = c.new-prefix.ensures ∙ c.in_ok-from_slice.ensures.items in
    budget-end case w.path.now w.budget w.spent
    (g.S.Systems.keeps c.loop-count.source) c.loop-count.count c.loop-count.work c.loop-count.before c.loop-count.levels.items c.loop-count.invariant.0
    (omega (arith, c.loop-count-test.true)) (w.budget - c.loop-count.work) refl
    (subst (λ (p : List Bool). w.budget - c.loop-count.work < work_of case p) prefix
    (none-of (w.budget - c.loop-count.work < work_of case c.new-prefix.result) c.in_ok-look.field-0 c.in_default.not-Some c.in_ok-look.ensures.passed))

pub returns-in_default-clause-serves : goal.returns-in_default-clause-serves
returns-in_default-clause-serves g c = λ e h. c.in_ok-look.ensures.serves e (c.loop-count.invariant.1 e (c.in_ok-before.ensures.serves e h))

pub returns-in_default-clause-keeps : goal.returns-in_default-clause-keeps
returns-in_default-clause-keeps g c = λ f h. c.in_ok-look.ensures.keeps f (c.loop-count.invariant.2 f (c.in_ok-before.ensures.keeps f h))

pub returns-in_default-clause-counts : goal.returns-in_default-clause-counts
returns-in_default-clause-counts g c = omega (arith, c.loop-count.invariant.3, c.in_ok-before.ensures.counts, c.in_ok-look.ensures.counts)

pub returns-in-Some-stop_by-clause-exact : goal.returns-in-Some-stop_by-clause-exact
returns-in-Some-stop_by-clause-exact g c =
    let case = case_in c.args.problem.now in
    let w = c.args.walk.now in
    let prefix : c.new-prefix.result ≡ take c.loop-count.count w.path.now = c.new-prefix.ensures ∙ c.in_ok-from_slice.ensures.items in
    let look = subst (TellsLook case c.new-prefix.result (w.budget - c.loop-count.work)) c.in-Some.is c.in_ok-look.ensures.look in
    stops-here case w.path.now w.budget w.spent
    (g.S.Systems.keeps c.loop-count.source) c.loop-count.count c.loop-count.work c.loop-count.before c.loop-count.levels.items c.loop-count.invariant.0
    (omega (arith, c.loop-count-test.true)) c.in-Some.look
    (subst (λ (p : List Bool). IsLook case p c.in-Some.look) prefix look.0) look.1 c.stop_by.result c.in-Some-stop_by.end c.stop_by.ensures c.in-Some-stop_by.is

pub returns-in-Some-stop_by-clause-serves : goal.returns-in-Some-stop_by-clause-serves
returns-in-Some-stop_by-clause-serves g c = λ e h. c.in_ok-look.ensures.serves e (c.loop-count.invariant.1 e (c.in_ok-before.ensures.serves e h))

pub returns-in-Some-stop_by-clause-keeps : goal.returns-in-Some-stop_by-clause-keeps
returns-in-Some-stop_by-clause-keeps g c = λ f h. c.in_ok-look.ensures.keeps f (c.loop-count.invariant.2 f (c.in_ok-before.ensures.keeps f h))

pub returns-in-Some-stop_by-clause-counts : goal.returns-in-Some-stop_by-clause-counts
returns-in-Some-stop_by-clause-counts g c = omega (arith, c.loop-count.invariant.3, c.in_ok-before.ensures.counts, c.in_ok-look.ensures.counts)

pub returns-in-Some-2-clause-exact : goal.returns-in-Some-2-clause-exact
returns-in-Some-2-clause-exact g c =
    let case = case_in c.args.problem.now in
    let w = c.args.walk.now in
    let prefix : c.new-prefix.result ≡ take c.loop-count.count w.path.now = c.new-prefix.ensures ∙ c.in_ok-from_slice.ensures.items in
    let look = subst (TellsLook case c.new-prefix.result (w.budget - c.loop-count.work)) c.in-Some.is c.in_ok-look.ensures.look in
    closes-here case w.path.now w.budget w.spent
    (g.S.Systems.keeps c.loop-count.source) c.loop-count.count c.loop-count.work c.loop-count.before c.loop-count.levels.items c.loop-count.invariant.0
    (omega (arith, c.loop-count-test.true)) c.in-Some.look
    (subst (λ (p : List Bool). IsLook case p c.in-Some.look) prefix look.0) look.1 c.deref.result.now c.in_ok-end.field-0 c.in-Some-2.end
    (subst (HasLists case (take c.loop-count.count w.path.now)) (sym c.deref.ensures.value)
    (subst (λ (p : List Bool). HasLists case p c.push_lists.new.levels.items) (c.letters-letters.ensures ∙ prefix) c.in_ok-push_lists.ensures.lists))
    c.in_ok-end.ensures c.in-Some-2.is

pub returns-in-Some-2-clause-serves : goal.returns-in-Some-2-clause-serves
returns-in-Some-2-clause-serves g c = λ e h.
    c.in_ok-push_lists.ensures.serves e (c.in_ok-look.ensures.serves e (c.loop-count.invariant.1 e (c.in_ok-before.ensures.serves e h)))

pub returns-in-Some-2-clause-keeps : goal.returns-in-Some-2-clause-keeps
returns-in-Some-2-clause-keeps g c = λ f h.
    c.in_ok-push_lists.ensures.keeps f (c.in_ok-look.ensures.keeps f (c.loop-count.invariant.2 f (c.in_ok-before.ensures.keeps f h)))

pub returns-in-Some-2-clause-counts : goal.returns-in-Some-2-clause-counts
returns-in-Some-2-clause-counts g c =
    omega (arith, c.loop-count.invariant.3, c.in_ok-before.ensures.counts, c.in_ok-look.ensures.counts, c.in_ok-push_lists.ensures.counts)

pub loop-count-preserved : goal.loop-count-preserved
loop-count-preserved g c =
    let case = case_in c.args.problem.now in
    let w = c.args.walk.now in
    let prefix : c.new-prefix.result ≡ take c.loop-count.count w.path.now = c.new-prefix.ensures ∙ c.in_ok-from_slice.ensures.items in
    let look = subst (TellsLook case c.new-prefix.result (w.budget - c.loop-count.work)) c.in-Some.is c.in_ok-look.ensures.look in
    let kept = subst (KeepsOpen (g.S.Systems.keeps c.look_into.new.source) case c.new-prefix.result) c.in-Some.is c.in_ok-look.ensures.kept in
    let opened = stays-open c.in-Some.look.state c.deref.result.now
    (c.loop-count.work + c.in-Some.look.work) c.in_ok-end.field-0 c.in_ok-end.ensures c.in_default-2.not-Some in (
      goes-on case w.path.now w.budget w.spent
          (g.S.Systems.keeps c.loop-count.source) c.loop-count.count c.loop-count.work c.loop-count.before c.loop-count.levels.items c.loop-count.invariant.0
          (omega (arith, c.loop-count-test.true)) c.in-Some.look (subst (λ (p : List Bool). IsLook case p c.in-Some.look) prefix look.0) look.1
          (g.S.Systems.keeps c.push_lists.new.source) c.push_lists.new.levels.items opened
          (subst (KeepsChanged (g.S.Systems.keeps c.push_lists.new.source) case) prefix
          (kept-on case c.new-prefix.result (g.S.Systems.keeps c.look_into.new.source)
          (g.S.Systems.keeps c.push_lists.new.source) c.in_ok-push_lists.ensures.keeps (kept opened)))
          (subst (λ (p : List Bool). HasLists case p c.push_lists.new.levels.items) (c.letters-letters.ensures ∙ prefix) c.in_ok-push_lists.ensures.lists),
      λ e h. c.in_ok-push_lists.ensures.serves e (c.in_ok-look.ensures.serves e (c.loop-count.invariant.1 e h)),
      λ f h. c.in_ok-push_lists.ensures.keeps f (c.in_ok-look.ensures.keeps f (c.loop-count.invariant.2 f h)),
      omega (arith, c.loop-count.invariant.3, c.in_ok-look.ensures.counts, c.in_ok-push_lists.ensures.counts),
    )

pub returns-clause-exact : goal.returns-clause-exact
returns-clause-exact g c =
    ends-open (case_in c.args.problem.now) c.args.walk.now.path.now c.args.walk.now.budget c.args.walk.now.spent
    (g.S.Systems.keeps c.loop-count.source) c.loop-count.count c.loop-count.work c.loop-count.before
    c.loop-count.levels.items c.loop-count.invariant.0 (omega (arith, c.loop-count-test.false, c.loop-count.auto.count-end))

pub returns-clause-serves : goal.returns-clause-serves
returns-clause-serves g c = λ e h. c.loop-count.invariant.1 e (c.in_ok-before.ensures.serves e h)

pub returns-clause-keeps : goal.returns-clause-keeps
returns-clause-keeps g c = λ f h. c.loop-count.invariant.2 f (c.in_ok-before.ensures.keeps f h)

pub returns-clause-counts : goal.returns-clause-counts
returns-clause-counts g c = omega (arith, c.loop-count.invariant.3, c.in_ok-before.ensures.counts)
