use Rattle.std.proofs.Common.{List, subst}
use Rattle.std.proofs.lemmas.Result.{on_ok_weaker}
use Rattle.bound_cert.specs.declared.cert.Leaf.{Leaf}
use Rattle.bound_cert.specs.ValidTrees.{TreeCase, IsFirstFault, IsValidTree, tree_case}
use Rattle.bound_cert.proofs.CertLaws.{tree-shows}
use Rattle.bound_cert.proofs.FaultLaws.{fault-invalid, first-named}
use Rattle.bound_cert.proofs.check.check_cert.Goals as goal

pub returns-clause-invalid : goal.returns-clause-invalid
returns-clause-invalid c =
    let k : TreeCase = tree_case c.args.survey.now c.args.given.now c.args.usable.now c.args.row.now c.args.weight in
    λ leaf step is. fault-invalid k c.args.cert.now.leaves leaf step (subst (λ (ls : List Leaf). IsFirstFault k ls leaf step) c.as_slice.ensures
    (c.check_leaves.ensures.bad leaf step is))

pub returns-clause-shown : goal.returns-clause-shown
returns-clause-shown c =
    let k : TreeCase = tree_case c.args.survey.now c.args.given.now c.args.usable.now c.args.row.now c.args.weight in
    on_ok_weaker c.check_leaves.result (λ valid. tree-shows k c.requires.row c.requires.over c.args.cert.now.leaves
    (subst (λ (ls : List Leaf). IsValidTree k ls) c.as_slice.ensures valid)) c.check_leaves.ensures.valid

pub returns-clause-named : goal.returns-clause-named
returns-clause-named c =
    let k : TreeCase = tree_case c.args.survey.now c.args.given.now c.args.usable.now c.args.row.now c.args.weight in
    λ leaf step is. first-named k c.args.cert.now.leaves leaf step (subst (λ (ls : List Leaf). IsFirstFault k ls leaf step) c.as_slice.ensures
    (c.check_leaves.ensures.bad leaf step is))
