use Rattle.std.proofs.Common.{arith}
use Rattle.donor_search.proofs.DeckLaws.{block_is, block_within}
use Rattle.donor_search.proofs.search.block_at.Goals as goal

pub overflow_mul-start : goal.overflow_mul-start
overflow_mul-start g c =
    let within = block_within c.requires.deck c.args.block c.count-count.ensures.fields c.ranges-all.ensures c.requires.block in
    omega (arith, within, c.ranges-all.type_inv)

pub slice_bounds-result-end : goal.slice_bounds-result-end
slice_bounds-result-end g c =
    let within = block_within c.requires.deck c.args.block c.count-count.ensures.fields c.ranges-all.ensures c.requires.block in omega (arith, within)

pub overflow_add-result : goal.overflow_add-result
overflow_add-result g c =
    let within = block_within c.requires.deck c.args.block c.count-count.ensures.fields c.ranges-all.ensures c.requires.block in
    omega (arith, within, c.ranges-all.type_inv)

pub offset_bounds-all-start : goal.offset_bounds-all-start
offset_bounds-all-start g c =
    let within = block_within c.requires.deck c.args.block c.count-count.ensures.fields c.ranges-all.ensures c.requires.block in
    omega (arith, within, c.ranges-all.type_inv)

pub returns : goal.returns
returns g c = block_is c.requires.deck c.args.block c.count-count.ensures.fields c.ranges-all.ensures
