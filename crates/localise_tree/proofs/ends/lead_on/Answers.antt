use Rattle.std.proofs.Common.{◌≡◌, ◌&&◌, [], ◌∷◌, false, true, not, sym, ap, ◌∙◌}
use Rattle.std.proofs.lemmas.Result.{IfOk-from_err}
use Rattle.edit_paths.specs.PathStates.{is_open}
use Rattle.edit_paths.specs.Paths.{is_complete}
use Rattle.edit_paths.specs.ReachedPaths.{changed_next, kept_next}
use Rattle.edit_paths.specs.Walks.{next_paths}
use Rattle.edit_paths.specs.declared.state.PathState.{PathState}
use Rattle.path_walk.specs.Bases.{has_basis}
use Rattle.path_walk.specs.Problems.{case_in}
use Rattle.localise_tree.proofs.EndLaws.{child-kept, leads-both, leads-open, leads-short, led-kept, led-nodes, led-paths}
use Rattle.localise_tree.proofs.PlaceLaws.{parted, parted-next}
use Rattle.localise_tree.proofs.SearchLaws.{same-basis}
use Rattle.localise_tree.proofs.ends.lead_on.Goals as goal

module _ (c : goal.In_ok-place_end-2) where
  led : next_paths (case_in c.args.problem.now) c.args.node.now.path ≡ kept_next c.args.node.now.path ∷ changed_next c.args.node.now.path ∷ []
  led =
      leads-both (case_in c.args.problem.now) c.args.node.now.path c.leads_on.result
      (c.leads_on.ensures ∙ ap (λ (s : PathState). is_open s && not (is_complete (case_in c.args.problem.now) c.args.node.now.path)) c.requires.look.state)
      c.if-not-leads_on.false

pub returns-clause-paths : goal.returns-clause-paths
returns-clause-paths c =
    led-paths (case_in c.args.problem.now) c.args.node.now.path c.args.ends.now.items c.place_end.new.ends.items c.place_end-2.new.ends.items
    c.in_ok-kept.kept c.in_ok-changed.changed c.in_ok-place_end.ensures c.in_ok-place_end-2.ensures
    c.requires.ends c.in_ok-kept.ensures.node c.in_ok-changed.ensures.node (led c) c.in_ok-kept.ensures.path c.in_ok-changed.ensures.path

pub returns-clause-nodes : goal.returns-clause-nodes
returns-clause-nodes c =
    led-nodes (case_in c.args.problem.now) c.args.node.now.path c.args.ends.now.items c.place_end.new.ends.items c.place_end-2.new.ends.items
    c.in_ok-kept.kept c.in_ok-changed.changed c.in_ok-place_end.ensures c.in_ok-place_end-2.ensures
    c.requires.ends c.in_ok-kept.ensures.node c.in_ok-changed.ensures.node

pub returns-clause-kept : goal.returns-clause-kept
returns-clause-kept c keeps kept are =
    let opened = leads-open c.args.look.state (is_complete (case_in c.args.problem.now) c.args.node.now.path) c.leads_on.result c.leads_on.ensures
    c.if-not-leads_on.false in
    let short = leads-short (case_in c.args.problem.now) c.args.node.now.path c.args.look.state c.leads_on.result c.requires.node.fit c.leads_on.ensures
    c.if-not-leads_on.false in
    led-kept (case_in c.args.problem.now) c.args.node.now.path c.args.ends.now.items c.place_end.new.ends.items c.place_end-2.new.ends.items
    c.in_ok-kept.kept c.in_ok-changed.changed c.in_ok-place_end.ensures c.in_ok-place_end-2.ensures keeps are
    (child-kept (case_in c.args.problem.now) c.args.node.now c.in_ok-kept.kept false c.requires.node short c.in_ok-kept.ensures.path keeps (kept opened))
    (child-kept (case_in c.args.problem.now) c.args.node.now c.in_ok-changed.changed true c.requires.node short c.in_ok-changed.ensures.path keeps
    (kept opened))

pub place_end-requires : goal.place_end-requires
place_end-requires c = parted (case_in c.args.problem.now) c.args.ends.now.items c.in_ok-kept.kept c.requires.ends c.in_ok-kept.ensures.node c.requires.order

pub place_end-requires-2 : goal.place_end-requires-2
place_end-requires-2 c =
    parted-next (case_in c.args.problem.now) c.args.ends.now.items c.place_end.new.ends.items c.in_ok-kept.kept c.in_ok-changed.changed
    c.in_ok-place_end.ensures
    c.requires.ends c.in_ok-kept.ensures.node c.in_ok-changed.ensures.node c.requires.order

pub child-requires-clause-short : goal.child-requires-clause-short
child-requires-clause-short c =
    leads-short (case_in c.args.problem.now) c.args.node.now.path c.args.look.state c.leads_on.result c.requires.node.fit c.leads_on.ensures
    c.if-not-leads_on.false

pub child-requires-clause-state : goal.child-requires-clause-state
child-requires-clause-state c =
    sym c.requires.look.state
    ∙ leads-open c.args.look.state (is_complete (case_in c.args.problem.now) c.args.node.now.path) c.leads_on.result c.leads_on.ensures
    c.if-not-leads_on.false

pub child-requires-2-clause-short : goal.child-requires-2-clause-short
child-requires-2-clause-short c =
    leads-short (case_in c.args.problem.now) c.args.node.now.path c.args.look.state c.leads_on.result c.requires.node.fit c.leads_on.ensures
    c.if-not-leads_on.false

pub child-requires-2-clause-state : goal.child-requires-2-clause-state
child-requires-2-clause-state c =
    sym c.requires.look.state
    ∙ leads-open c.args.look.state (is_complete (case_in c.args.problem.now) c.args.node.now.path) c.leads_on.result c.leads_on.ensures
    c.if-not-leads_on.false

pub child-requires-clause-basis : goal.child-requires-clause-basis
child-requires-clause-basis c =
    let opened = leads-open c.args.look.state (is_complete (case_in c.args.problem.now) c.args.node.now.path) c.leads_on.result c.leads_on.ensures
    c.if-not-leads_on.false in
    same-basis (case_in c.args.problem.now) c.args.node.now.path c.args.look.basis c.in_ok-share.field-0 c.in_ok-share.ensures
    (c.requires.look.basis (ap (λ (s : PathState). has_basis s) opened))

pub child-requires-2-clause-basis : goal.child-requires-2-clause-basis
child-requires-2-clause-basis c =
    let opened = leads-open c.args.look.state (is_complete (case_in c.args.problem.now) c.args.node.now.path) c.leads_on.result c.leads_on.ensures
    c.if-not-leads_on.false in
    c.requires.look.basis (ap (λ (s : PathState). has_basis s) opened)

pub returns-in_err-share-clause-paths : goal.returns-in_err-share-clause-paths
returns-in_err-share-clause-paths c = IfOk-from_err _ _ c.from_residual.ensures.0

pub returns-in_err-share-clause-nodes : goal.returns-in_err-share-clause-nodes
returns-in_err-share-clause-nodes c = IfOk-from_err _ _ c.from_residual.ensures.0

pub returns-in_err-share-clause-kept : goal.returns-in_err-share-clause-kept
returns-in_err-share-clause-kept c = IfOk-from_err _ _ c.from_residual.ensures.0

pub returns-in_err-kept-clause-paths : goal.returns-in_err-kept-clause-paths
returns-in_err-kept-clause-paths c = IfOk-from_err _ _ c.from_residual-in_err-kept.ensures.0

pub returns-in_err-kept-clause-nodes : goal.returns-in_err-kept-clause-nodes
returns-in_err-kept-clause-nodes c = IfOk-from_err _ _ c.from_residual-in_err-kept.ensures.0

pub returns-in_err-kept-clause-kept : goal.returns-in_err-kept-clause-kept
returns-in_err-kept-clause-kept c = IfOk-from_err _ _ c.from_residual-in_err-kept.ensures.0

pub returns-in_err-changed-clause-paths : goal.returns-in_err-changed-clause-paths
returns-in_err-changed-clause-paths c = IfOk-from_err _ _ c.from_residual-in_err-changed.ensures.0

pub returns-in_err-changed-clause-nodes : goal.returns-in_err-changed-clause-nodes
returns-in_err-changed-clause-nodes c = IfOk-from_err _ _ c.from_residual-in_err-changed.ensures.0

pub returns-in_err-changed-clause-kept : goal.returns-in_err-changed-clause-kept
returns-in_err-changed-clause-kept c = IfOk-from_err _ _ c.from_residual-in_err-changed.ensures.0

pub returns-in_err-place_end-clause-paths : goal.returns-in_err-place_end-clause-paths
returns-in_err-place_end-clause-paths c = IfOk-from_err _ _ c.from_residual-in_err-place_end.ensures.0

pub returns-in_err-place_end-clause-nodes : goal.returns-in_err-place_end-clause-nodes
returns-in_err-place_end-clause-nodes c = IfOk-from_err _ _ c.from_residual-in_err-place_end.ensures.0

pub returns-in_err-place_end-clause-kept : goal.returns-in_err-place_end-clause-kept
returns-in_err-place_end-clause-kept c = IfOk-from_err _ _ c.from_residual-in_err-place_end.ensures.0

pub returns-in_err-place_end-2-clause-paths : goal.returns-in_err-place_end-2-clause-paths
returns-in_err-place_end-2-clause-paths c = IfOk-from_err _ _ c.from_residual-in_err-place_end-2.ensures.0

pub returns-in_err-place_end-2-clause-nodes : goal.returns-in_err-place_end-2-clause-nodes
returns-in_err-place_end-2-clause-nodes c = IfOk-from_err _ _ c.from_residual-in_err-place_end-2.ensures.0

pub returns-in_err-place_end-2-clause-kept : goal.returns-in_err-place_end-2-clause-kept
returns-in_err-place_end-2-clause-kept c = IfOk-from_err _ _ c.from_residual-in_err-place_end-2.ensures.0
