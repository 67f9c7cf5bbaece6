use Rattle.std.proofs.Common.{◌≡◌, ◌*ℤ◌, pos, rules}
use Rattle.std.specs.Int.{int_div_euclid}
use Rattle.page_counts.specs.Bins.{bins_needed}
use Rattle.page_counts.proofs.BinLaws.{greatest_within, least_within}
use Rattle.page_counts.proofs.binning.bins_between.Goals as goal

pub returns-clause-least : goal.returns-clause-least
returns-clause-least c =
    let begins : c.bins_of.result.first ≡ int_div_euclid c.args.least c.bins_of.result.width *ℤ c.bins_of.result.width = search rules in
    let many : pos c.bins_of.result.count ≡ bins_needed c.args.least c.args.greatest c.bins_of.result.width = search rules in
    least_within c.args.least c.args.greatest c.bins_of.result.width c.bins_of.result.wide c.bins_of.result.first c.bins_of.result.count begins many
    c.requires.order

pub returns-clause-greatest : goal.returns-clause-greatest
returns-clause-greatest c =
    let begins : c.bins_of.result.first ≡ int_div_euclid c.args.least c.bins_of.result.width *ℤ c.bins_of.result.width = search rules in
    let many : pos c.bins_of.result.count ≡ bins_needed c.args.least c.args.greatest c.bins_of.result.width = search rules in
    greatest_within c.args.least c.args.greatest c.bins_of.result.width c.bins_of.result.wide c.bins_of.result.first c.bins_of.result.count begins many
    c.requires.order
