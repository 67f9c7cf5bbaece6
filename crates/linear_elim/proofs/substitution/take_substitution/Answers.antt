use Rattle.std.proofs.Common.{◌∙◌, List, ℕ, ap, sym, subst}
use Rattle.edit_line.specs.Combinations.{all_meet}
use Rattle.edit_line.specs.Sets.{AreSets}
use Rattle.edit_line.specs.Shapes.{Domain, whole_sets}
use Rattle.edit_line.proofs.BoolLaws.{both_true}
use Rattle.edit_line.proofs.RelationLaws.{is_equal-Decides}
use Rattle.edit_line.proofs.WholeSets.{whole-meets}
use Rattle.linear_elim.proofs.substitution.take_substitution.Goals as goal

pub take_combination-requires-clause-meet : goal.take_combination-requires-clause-meet
take_combination-requires-clause-meet g c =
    let e = c.args.e.derived.now.line in
    let t = c.args.t.derived.now.line in
    let equal = (is_equal-Decides e.relation).0 (both_true _ _ c.requires.equality).0 in
    let same = c.requires.t_over ∙ sym c.requires.e_over in
    ap (λ (ss : List ℕ). all_meet ss t.sets) (c.sets-whole.ensures.line.whole equal)
    ∙ whole-meets e.shape t.sets (subst (λ (sh : List Domain). AreSets t.sets (whole_sets sh)) same c.sets-fit.ensures.fit)
