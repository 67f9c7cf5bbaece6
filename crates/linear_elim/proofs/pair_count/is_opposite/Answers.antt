use Rattle.std.proofs.Common.{List, length, ap, sym, subst, ◌∙◌}
use Rattle.edit_line.specs.Shapes.{Domain, whole_sets}
use Rattle.edit_line.specs.Sets.{AreSets}
use Rattle.edit_line.proofs.SetLaws.{same-sets}
use Rattle.linear_elim.proofs.pair_count.is_opposite.Goals as goal

pub all_meet-requires : goal.all_meet-requires
all_meet-requires c =
    let second = subst (λ (sh : List Domain). AreSets c.args.t.now.sets (whole_sets sh)) (c.requires.t_over ∙ sym c.requires.s_over)
    c.sets-then-is_upper.ensures.fit in
    ap length c.sets.ensures.sets ∙ same-sets c.args.s.now.sets c.args.t.now.sets (whole_sets c.args.s.now.shape) c.sets.ensures.fit second
    ∙ sym (ap length c.sets-then-is_upper.ensures.sets)
