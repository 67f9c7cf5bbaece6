use Rattle.std.proofs.Common.{List, subst, sym, ◌∙◌, ◌≡◌, true, ℕ}
use Rattle.edit_model.specs.FieldSets.{set_of}
use Rattle.std.specs.Arc.{arc_value}
use Rattle.std.proofs.lemmas.Result.{IfOk-from_err}
use Rattle.linear_elim.specs.declared.held.Held.{Held}
use Rattle.path_walk.specs.Bases.{IsPathSystem}
use Rattle.path_walk.specs.Problems.{case_in}
use Rattle.path_walk.proofs.NumberPathLaws.{kept-numbers, kept-system}
use Rattle.path_walk.proofs.number_paths.next_system.Goals as goal

pub returns-then-not-ends_changed-clause-kept : goal.returns-then-not-ends_changed-clause-kept
returns-then-not-ends_changed-clause-kept g c =
    let same = kept-numbers (case_in c.args.problem.now) c.args.letters.now c.requires.fit (sym c.ends_changed.ensures.changed ∙ c.if-not-ends_changed.true) in
    subst (λ (fs : List ℕ). g.S.Systems.keeps c.args.source.now (set_of fs) ≡ true) (sym same) c.requires.before

pub returns-then-not-ends_changed-clause-system : goal.returns-then-not-ends_changed-clause-system
returns-then-not-ends_changed-clause-system g c =
    let case = case_in c.args.problem.now in
    let same = kept-numbers case c.args.letters.now c.requires.fit (sym c.ends_changed.ensures.changed ∙ c.if-not-ends_changed.true) in
    subst (λ (h : Held). IsPathSystem case c.args.letters.now h) (sym c.in_ok-share.ensures)
    (kept-system case c.args.letters.now (arc_value c.args.before.now) same c.requires.system)

pub returns-in_err-in_arc-in-Ok-clause-serves : goal.returns-in_err-in_arc-in-Ok-clause-serves
returns-in_err-in_arc-in-Ok-clause-serves g c = c.changed_system.ensures.serves

pub returns-in_err-in_arc-in-Ok-clause-keeps : goal.returns-in_err-in_arc-in-Ok-clause-keeps
returns-in_err-in_arc-in-Ok-clause-keeps g c = c.changed_system.ensures.keeps

pub returns-in_err-in_arc-in-Ok-clause-counts : goal.returns-in_err-in_arc-in-Ok-clause-counts
returns-in_err-in_arc-in-Ok-clause-counts g c = c.changed_system.ensures.counts

pub returns-in_ok-in_arc-in-Ok-clause-serves : goal.returns-in_ok-in_arc-in-Ok-clause-serves
returns-in_ok-in_arc-in-Ok-clause-serves g c = c.changed_system.ensures.serves

pub returns-in_ok-in_arc-in-Ok-clause-keeps : goal.returns-in_ok-in_arc-in-Ok-clause-keeps
returns-in_ok-in_arc-in-Ok-clause-keeps g c = c.changed_system.ensures.keeps

pub returns-in_ok-in_arc-in-Ok-clause-counts : goal.returns-in_ok-in_arc-in-Ok-clause-counts
returns-in_ok-in_arc-in-Ok-clause-counts g c = c.changed_system.ensures.counts

pub returns-in-Err-clause-serves : goal.returns-in-Err-clause-serves
returns-in-Err-clause-serves g c = c.changed_system.ensures.serves

pub returns-in-Err-clause-keeps : goal.returns-in-Err-clause-keeps
returns-in-Err-clause-keeps g c = c.changed_system.ensures.keeps

pub returns-in-Err-clause-counts : goal.returns-in-Err-clause-counts
returns-in-Err-clause-counts g c = c.changed_system.ensures.counts

pub returns-in_err-share-clause-system : goal.returns-in_err-share-clause-system
returns-in_err-share-clause-system g c = IfOk-from_err _ _ c.from_residual.ensures.0

pub returns-in_err-share-clause-kept : goal.returns-in_err-share-clause-kept
returns-in_err-share-clause-kept g c = IfOk-from_err _ _ c.from_residual.ensures.0

pub returns-in_err-in_arc-in-Ok-clause-system : goal.returns-in_err-in_arc-in-Ok-clause-system
returns-in_err-in_arc-in-Ok-clause-system g c = IfOk-from_err _ _ c.from_residual-in_err-in_arc-in-Ok.ensures.0

pub returns-in_err-in_arc-in-Ok-clause-kept : goal.returns-in_err-in_arc-in-Ok-clause-kept
returns-in_err-in_arc-in-Ok-clause-kept g c = IfOk-from_err _ _ c.from_residual-in_err-in_arc-in-Ok.ensures.0
