use Rattle.std.proofs.Common.{◌≡◌, ◌≤ℤ◌, pos, ℤ, rules, subst, sym}
use Rattle.page_counts.specs.Bins.{bins_needed}
use Rattle.page_counts.proofs.BinLaws.{needed_some}
use Rattle.page_counts.proofs.binning.bins_of.Goals as goal

pub count_of-requires-clause-some : goal.count_of-requires-clause-some
count_of-requires-clause-some c =
    let is : c.bins_needed.result ≡ bins_needed c.args.least c.args.greatest c.args.width = search rules in
    let some : pos 1 ≤ℤ c.bins_needed.result =
    subst (λ (z : ℤ). pos 1 ≤ℤ z) (sym is) (needed_some c.args.least c.args.greatest c.args.width c.requires.wide c.requires.order) in
    search (rules, some)
