use Rattle.std.proofs.Common.{◌≡◌, ◌∙◌, map, rules}
use Rattle.std.specs.Map.Iter.{deref_pair}
use Rattle.std.proofs.lemmas.Map.Iter.{iter_end}
use Rattle.page_counts.proofs.TallyLaws.{tallied}
use Rattle.page_counts.proofs.amounts.tally.Goals as goal

pub returns : goal.returns
returns c =
    let m = c.in_ok-by_size.by_size in
    let whole : map deref_pair c.loop-size.yielded ≡ m.entries = search (rules, iter_end) in
    tallied c.args.amounts.now m c.len.ensures.ordered c.loop-size.counts.items (c.loop-size.invariant
    ∙ whole) c.in_ok-by_size.ensures.counts c.in_ok-by_size.ensures.some
