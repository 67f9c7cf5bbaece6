use Rattle.std.proofs.Common.{◌<◌, arith, length}
use Rattle.edit_line.proofs.NegationLines.{others-among, place-within}
use Rattle.edit_line.proofs.negation.push_never.Goals as goal

pub bounds-wholes-place : goal.bounds-wholes-place
bounds-wholes-place c = place-within c.args.line.now.shape c.args.line.now.sets c.args.wholes.now c.args.place c.sets-fit.ensures.fit c.requires.wholes
    c.requires.place

pub index_mut-requires : goal.index_mut-requires
index_mut-requires c =
    let below : c.args.place < length c.args.wholes.now = place-within c.args.line.now.shape c.args.line.now.sets c.args.wholes.now c.args.place
    c.sets-fit.ensures.fit c.requires.wholes c.requires.place in
    omega (arith, below, c.in_ok-sets.ensures.len)

pub never_line-requires : goal.never_line-requires
never_line-requires c =
    others-among c.args.line.now.shape c.args.line.now.sets c.args.wholes.now c.in_ok-sets.sets.items c.args.place c.args.set c.sets-fit.ensures.fit
    c.requires.wholes c.in_ok-sets.ensures.items c.requires.place c.requires.set c.if-set-whole.true
