use Rattle.std.proofs.Common.{arith}
use Rattle.donor_search.proofs.DeckLaws.{row_is, row_within}
use Rattle.donor_search.proofs.search.marks_at.Goals as goal

pub slice_bounds-result-end : goal.slice_bounds-result-end
slice_bounds-result-end g c =
    let within = row_within c.requires.deck c.args.donor c.count-count.ensures.fields c.marks.ensures c.requires.donor in omega (arith, within)

pub returns : goal.returns
returns g c = row_is c.requires.deck c.args.donor c.count-count.ensures.fields c.marks.ensures c.requires.donor
