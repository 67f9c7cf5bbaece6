use Rattle.std.proofs.Common.{◌∙◌}
use Rattle.page_counts.proofs.BinLaws.{bins_more}
use Rattle.page_counts.proofs.bin_counts.histogram.Goals as goal

pub loop-i-preserved : goal.loop-i-preserved
loop-i-preserved c =
    bins_more c.args.bins.now c.args.values.now c.loop-i.i c.count_among.result c.loop-i.counts.items c.push.new.self.items c.deref.result.now
    c.loop-i.invariant (c.deref.ensures.value ∙ c.in_ok-thousandths.ensures) c.count_among.ensures c.in_ok-push.ensures.items
