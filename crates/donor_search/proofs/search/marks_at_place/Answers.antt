use Rattle.std.proofs.Common.{arith}
use Rattle.donor_search.proofs.DeckLaws.{walk_is, walk_within}
use Rattle.donor_search.proofs.search.marks_at_place.Goals as goal

pub overflow_mul-start : goal.overflow_mul-start
overflow_mul-start g c =
    let within = walk_within c.requires.deck c.args.place c.requires.place c.count-count.ensures.fields c.walk_marks-marks.ensures in
    omega (arith, within, c.walk_marks-marks.type_inv)

pub slice_bounds-result-end : goal.slice_bounds-result-end
slice_bounds-result-end g c =
    let within = walk_within c.requires.deck c.args.place c.requires.place c.count-count.ensures.fields c.walk_marks-marks.ensures in omega (arith, within)

pub overflow_add-result : goal.overflow_add-result
overflow_add-result g c =
    let within = walk_within c.requires.deck c.args.place c.requires.place c.count-count.ensures.fields c.walk_marks-marks.ensures in
    omega (arith, within, c.walk_marks-marks.type_inv)

pub offset_bounds-marks-start : goal.offset_bounds-marks-start
offset_bounds-marks-start g c =
    let within = walk_within c.requires.deck c.args.place c.requires.place c.count-count.ensures.fields c.walk_marks-marks.ensures in
    omega (arith, within, c.walk_marks-marks.type_inv)

pub returns : goal.returns
returns g c = walk_is c.requires.deck c.args.place c.requires.place c.count-count.ensures.fields c.walk_marks-marks.ensures
