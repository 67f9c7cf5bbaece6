use Rattle.std.proofs.Common.{Bool, List, [], ap, arith, ◌++◌, ◌-◌, ◌∙◌, ◌≡◌}
use Rattle.std.proofs.lemmas.Result.{IfOk-from_err}
use Rattle.bound_cert.specs.declared.cert.Leaf.{Leaf}
use Rattle.edit_paths.specs.Certificates.{leaves_from}
use Rattle.edit_paths.specs.Paths.{field_count}
use Rattle.path_walk.specs.Problems.{case_in}
use Rattle.localise_tree.specs.inner.Takens.{leaves_below, taken_paths}
use Rattle.localise_tree.proofs.certificates.certificate.Goals as goal

pub returns-clause-leaves : goal.returns-clause-leaves
returns-clause-leaves g c =
    let all : field_count (case_in c.args.problem.now) - 0 ≡ field_count (case_in c.args.problem.now) = omega arith in
    c.from_vec.ensures
    ∙ c.in_ok-push_leaves.ensures.leaves
    ∙ ap (λ (ls : List Leaf). ls ++ leaves_below (case_in c.args.problem.now) (taken_paths c.args.taken.now) c.new.result.items) c.new-3.ensures.items
    ∙ ap (λ (p : List Bool). leaves_below (case_in c.args.problem.now) (taken_paths c.args.taken.now) p) c.new.ensures.items
    ∙ ap (λ n. leaves_from (case_in c.args.problem.now) (taken_paths c.args.taken.now) n []) all

pub returns-in_err-push_leaves-clause-serves : goal.returns-in_err-push_leaves-clause-serves
returns-in_err-push_leaves-clause-serves g c = c.push_leaves.ensures.serves

pub returns-in_err-push_leaves-clause-keeps : goal.returns-in_err-push_leaves-clause-keeps
returns-in_err-push_leaves-clause-keeps g c = c.push_leaves.ensures.keeps

pub returns-in_err-push_leaves-clause-counts : goal.returns-in_err-push_leaves-clause-counts
returns-in_err-push_leaves-clause-counts g c = c.push_leaves.ensures.counts

pub returns-clause-serves : goal.returns-clause-serves
returns-clause-serves g c = c.push_leaves.ensures.serves

pub returns-clause-keeps : goal.returns-clause-keeps
returns-clause-keeps g c = c.push_leaves.ensures.keeps

pub returns-clause-counts : goal.returns-clause-counts
returns-clause-counts g c = c.push_leaves.ensures.counts

pub returns-in_err-places_of-clause-leaves : goal.returns-in_err-places_of-clause-leaves
returns-in_err-places_of-clause-leaves g c = IfOk-from_err _ _ c.from_residual.ensures.0

pub returns-in_err-push_leaves-clause-leaves : goal.returns-in_err-push_leaves-clause-leaves
returns-in_err-push_leaves-clause-leaves g c = IfOk-from_err _ _ c.from_residual-in_err-push_leaves.ensures.0
