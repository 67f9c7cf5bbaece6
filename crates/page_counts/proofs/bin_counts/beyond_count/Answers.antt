use Rattle.std.proofs.Common.{arith}
use Rattle.page_counts.proofs.BinLaws.{beyond_rest}
use Rattle.page_counts.proofs.bin_counts.beyond_count.Goals as goal

pub overflow_sub-result : goal.overflow_sub-result
overflow_sub-result c =
    omega (
      arith,
      beyond_rest c.args.bins.now c.args.values.now c.args.thousandths.now c.count.result c.count_among.result c.number_count.result
          c.requires c.count.ensures.is c.count_among.ensures c.number_count.ensures,
    )

pub returns : goal.returns
returns c =
    omega (
      arith,
      beyond_rest c.args.bins.now c.args.values.now c.args.thousandths.now c.count.result c.count_among.result c.number_count.result
          c.requires c.count.ensures.is c.count_among.ensures c.number_count.ensures,
    )
