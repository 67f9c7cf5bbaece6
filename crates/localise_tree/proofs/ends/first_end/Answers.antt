use Rattle.path_walk.specs.Problems.{case_in}
use Rattle.localise_tree.proofs.EndLaws.{first-nodes}
use Rattle.localise_tree.proofs.ends.first_end.Goals as goal

pub returns-in_ok-one_end-in-Ok-clause-nodes : goal.returns-in_ok-one_end-in-Ok-clause-nodes
returns-in_ok-one_end-in-Ok-clause-nodes g c =
    first-nodes (case_in c.args.problem.now) c.in-Ok.held c.in_ok-one_end-in-Ok.field-0.items c.in_ok-one_end-in-Ok.ensures c.in-Ok.ensures.system
