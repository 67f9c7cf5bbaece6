use Rattle.std.proofs.Common.{◌+◌, ◌++◌, ◌∷◌, [], Bool, if◌then◌else◌, List, length, slice_index_or, refl, ap, ◌∙◌}
use Rattle.edit_model.specs.Corrections.{path_order}
use Rattle.edit_model.specs.Words.{weight_at}
use Rattle.path_walk.specs.Problems.{case_in}
use Rattle.localise_tree.proofs.EndLaws.{child-node}
use Rattle.localise_tree.proofs.ends.child.Goals as goal

pub returns-clause-node : goal.returns-clause-node
returns-clause-node c =
    child-node (case_in c.args.problem.now) c.args.node.now
    (record { path = c.new.result; weight = c.args.node.now.weight + c.changed_weight.result; before = c.args.before }) c.args.changed c.requires.node
    c.requires.short
    (c.new.ensures ∙ c.in_ok-with_letter.ensures ∙ ap (λ (p : List Bool). p ++ c.args.changed ∷ []) c.letters-letters.ensures) c.requires.state
    c.changed_weight.result
    (c.changed_weight.ensures.weight
    ∙ ap (λ (p : List Bool). if c.args.changed then weight_at c.args.problem.now.survey.now.fields
    (slice_index_or (path_order c.args.problem.now.survey.now.fields) (length p) 0) else 0) c.letters-letters.ensures)
    c.changed_weight.ensures.few refl c.requires.basis
