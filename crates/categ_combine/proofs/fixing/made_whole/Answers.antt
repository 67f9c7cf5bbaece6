use Rattle.std.proofs.Common.{◌<◌, length, rules, ap, arith, subst, sym, slice_set, ◌∙◌, ℕ, List}
use Rattle.edit_line.specs.Sets.{AreSets}
use Rattle.edit_line.specs.Shapes.{Domain, whole_sets}
use Rattle.categ_combine.proofs.SpotLaws.{made-whole, spot-within}
use Rattle.categ_combine.proofs.fixing.made_whole.Goals as goal

pub index_mut-requires : goal.index_mut-requires
index_mut-requires c =
    let within = spot-within _ _ c.args.b.now.code_box.sets c.args.spot.now.place c.args.spot.now.whole c.args.spot.now.stands c.requires c.sets.ensures.fit in
    let below : c.args.spot.now.place < length c.in_ok-sets.sets.items = omega
    (arith, within, ap length c.sets.ensures.sets, ap length c.in_ok-sets.ensures.items) in search rules

pub over-requires : goal.over-requires
over-requires c =
    let are = made-whole _ _ c.args.b.now.code_box.sets c.args.spot.now.place c.args.spot.now.whole c.args.spot.now.stands c.requires c.sets.ensures.fit in
    subst (λ (s : List Domain). AreSets (slice_set c.in_ok-sets.sets.items c.args.spot.now.place c.args.spot.now.whole) (whole_sets s)) (sym c.shape.ensures) (
    subst (λ (sets : List ℕ). AreSets (slice_set sets c.args.spot.now.place c.args.spot.now.whole) (whole_sets c.args.b.now.code_box.shape))
    (sym (c.in_ok-sets.ensures.items ∙ c.sets.ensures.sets)) are
    )
