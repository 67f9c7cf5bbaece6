use Rattle.std.proofs.Common.{◌≡◌, ◌∙◌, ℤ, FitsSigned, ap, count_by, rules}
use Rattle.std.proofs.lemmas.Int.{to_z-of_z}
use mir.Syntax.{w128}
use Rattle.page_counts.specs.Bins.{bin_low, is_between}
use Rattle.page_counts.proofs.bin_counts.count_among.Goals as goal

pub returns : goal.returns
returns c =
    let low_fits : FitsSigned w128 c.low.result = search rules in
    let high_fits : FitsSigned w128 c.low-2.result = search rules in
    let plain : c.count_between.result ≡ count_by (is_between c.low.result c.low-2.result) c.args.thousandths.now =
    rw (to_z-of_z w128 c.low.result low_fits, to_z-of_z w128 c.low-2.result high_fits) at c.count_between.ensures in
    plain ∙ ap (λ (z : ℤ). count_by (is_between z c.low-2.result) c.args.thousandths.now) c.low.ensures
    ∙ ap (λ (z : ℤ). count_by (is_between (bin_low c.args.bins.now c.args.first) z) c.args.thousandths.now) c.low-2.ensures
