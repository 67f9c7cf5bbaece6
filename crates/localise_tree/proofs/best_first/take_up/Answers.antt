use Rattle.std.proofs.Common.{◌++◌, ◌∙◌, [], ◌∷◌, Bool, List, ap}
use Rattle.path_walk.specs.Problems.{case_in}
use Rattle.localise_tree.proofs.SearchLaws.{kept-basis}
use Rattle.localise_tree.proofs.best_first.take_up.Goals as goal

pub returns-clause-taken : goal.returns-clause-taken
returns-clause-taken c = (
  c.in_ok-basis.basis,
  kept-basis (case_in c.args.problem.now) c.args.node.path c.args.look c.args.taken.now.room c.kept_basis.new.room c.in_ok-basis.basis c.requires.look
      c.in_ok-basis.ensures,
  c.in_ok-push.ensures.items ∙ ap (λ (p : List Bool). c.args.taken.now.paths.items
      ++ record { path = p; state = c.args.look.state; basis = c.in_ok-basis.basis } ∷ []) c.into_path.ensures,
)
