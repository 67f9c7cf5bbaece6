use mir.Syntax.{w128}
use Rattle.std.proofs.Common.{◌⊎◌, FitsSigned, None, Some, rules, subst, sym, ℤ}
use Rattle.std.specs.Int.{int_max, int_min}
use Rattle.std.proofs.lemmas.Int.{to_z-of_z}
use Rattle.page_counts.specs.Bins.{IsNarrowest}
use Rattle.release_figures.specs.inner.Ranges.{AreBinsOver, Ends, IsEnd, unit_over}
use Rattle.release_figures.proofs.RangeLaws.{bins_are, columns_are}
use Rattle.release_figures.proofs.ranges.bins_of.Goals as goal

pub returns-in_err-range : goal.returns-in_err-range
returns-in_err-range c =
    let before = c.args.before.now in
    let after = c.args.after.now in
    record {
      ends = None;
      are_ends = columns_are before after c.range_of.result c.range_of-2.result c.join_ranges.result None c.range_of.ensures c.range_of-2.ensures
          c.join_ranges.ensures c.in_err-range.was;
      over = subst (AreBinsOver None (unit_over before after)) (sym c.from_residual.ensures) tt;
    }

pub returns : goal.returns
returns c =
    let before = c.args.before.now in
    let after = c.args.after.now in
    let range = c.in_ok-range.range in
    let ends : Ends = record { least = range.least; greatest = range.greatest } in
    let least_fits : FitsSigned w128 range.least = search rules in
    let greatest_fits : FitsSigned w128 range.greatest = search rules in
    let unit_fits : FitsSigned w128 c.unit_of.result = search rules in
    let told = columns_are before after c.range_of.result c.range_of-2.result c.join_ranges.result (Some range) c.range_of.ensures c.range_of-2.ensures
    c.join_ranges.ensures c.in_ok-range.was in
    let bins = c.bins_over.result in
    let narrowest = simp to_z-of_z at c.bins_over.ensures.narrowest in
    let unit = subst (λ (u : ℤ). IsNarrowest (int_min range.least range.greatest) (int_max range.least range.greatest) u bins.width)
    c.unit_of.ensures.is narrowest in
    let first = simp to_z-of_z at c.bins_over.ensures.first in
    let count = simp to_z-of_z at c.bins_over.ensures.count in
    record {
      ends = Some ends;
      are_ends = told;
      over = bins_are (λ t. IsEnd before t ⊎ IsEnd after t) ends (unit_over before after) bins told unit first count;
    }
