use Rattle.std.proofs.Common.{◌≤ℤ◌, ◌<ℤ◌, ℤ, FitsSigned, rules, subst, sym}
use Rattle.std.specs.Int.{int_max}
use Rattle.std.proofs.lemmas.Int.{to_z-of_z}
use mir.Syntax.{w128}
use Rattle.page_counts.specs.Bins.{IsNarrowest}
use Rattle.page_counts.proofs.BinLaws.{int_max_first, int_max_second, int_min_first, int_min_second}
use Rattle.page_counts.proofs.binning.bins_over.Goals as goal

pub returns-then-one-other-clause-narrowest : goal.returns-then-one-other-clause-narrowest
returns-then-one-other-clause-narrowest c =
    let one_fits : FitsSigned w128 c.args.one = search rules in
    let other_fits : FitsSigned w128 c.args.other = search rules in
    let unit_fits : FitsSigned w128 c.args.unit = search rules in
    let order : c.args.one ≤ℤ c.args.other = search rules in
    let plain : IsNarrowest c.args.one c.args.other c.args.unit c.bins_between.result.width =
    rw (to_z-of_z w128 c.args.one one_fits, to_z-of_z w128 c.args.other other_fits, to_z-of_z w128 c.args.unit unit_fits) at c.bins_between.ensures.narrowest in
    subst (λ (z : ℤ). IsNarrowest z (int_max c.args.one c.args.other) c.args.unit c.bins_between.result.width)
    (sym (int_min_first c.args.one c.args.other order))
    (subst (λ (z : ℤ). IsNarrowest c.args.one z c.args.unit c.bins_between.result.width) (sym (int_max_first c.args.one c.args.other order)) plain)

pub returns-else-one-other-clause-narrowest : goal.returns-else-one-other-clause-narrowest
returns-else-one-other-clause-narrowest c =
    let one_fits : FitsSigned w128 c.args.one = search rules in
    let other_fits : FitsSigned w128 c.args.other = search rules in
    let unit_fits : FitsSigned w128 c.args.unit = search rules in
    let order : c.args.other <ℤ c.args.one = search rules in
    let bins = c.bins_between-else-one-other.result in
    let plain : IsNarrowest c.args.other c.args.one c.args.unit bins.width =
    rw (to_z-of_z w128 c.args.one one_fits, to_z-of_z w128 c.args.other other_fits, to_z-of_z w128 c.args.unit unit_fits)
    at c.bins_between-else-one-other.ensures.narrowest in
    subst (λ (z : ℤ). IsNarrowest z (int_max c.args.one c.args.other) c.args.unit bins.width)
    (sym (int_min_second c.args.one c.args.other order))
    (subst (λ (z : ℤ). IsNarrowest c.args.other z c.args.unit bins.width) (sym (int_max_second c.args.one c.args.other order)) plain)
