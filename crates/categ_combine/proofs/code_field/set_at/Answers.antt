use Rattle.std.proofs.Common.{◌<◌, length, rules, ap, arith}
use Rattle.categ_combine.proofs.SpotLaws.{spot-within}
use Rattle.categ_combine.proofs.code_field.set_at.Goals as goal

pub offset_bounds-sets-spot : goal.offset_bounds-sets-spot
offset_bounds-sets-spot c =
    let within = spot-within _ _ c.args.b.now.code_box.sets c.args.spot.now.place c.args.spot.now.whole c.args.spot.now.stands c.requires c.sets.ensures.fit in
    let below : c.args.spot.now.place < length c.sets.result.now = omega (arith, within, ap length c.sets.ensures.sets) in search rules

pub bounds-sets-spot : goal.bounds-sets-spot
bounds-sets-spot c =
    let within = spot-within _ _ c.args.b.now.code_box.sets c.args.spot.now.place c.args.spot.now.whole c.args.spot.now.stands c.requires c.sets.ensures.fit in
    omega (arith, within, ap length c.sets.ensures.sets)
