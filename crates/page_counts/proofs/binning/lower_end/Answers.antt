use Rattle.std.proofs.Common.{◌≡◌, ◌*ℤ◌, ◌≤◌, ◌^◌, ℤ, FitsSigned, unsigned_abs, rules, subst, sym}
use Rattle.std.specs.Int.{int_div_euclid}
use Rattle.std.proofs.lemmas.Int.{to_z-of_z}
use mir.Syntax.{w128}
use Rattle.page_counts.proofs.BinLaws.{first_small, fits_small}
use Rattle.page_counts.proofs.binning.lower_end.Goals as goal

pub overflow_mul-result : goal.overflow_mul-result
overflow_mul-result c =
    let quotient_fits : FitsSigned w128 c.floor_quotient.result = search rules in
    let width_fits : FitsSigned w128 c.args.width = search rules in
    let is : c.floor_quotient.result ≡ int_div_euclid c.args.least c.args.width = search rules in
    let small : unsigned_abs (c.floor_quotient.result *ℤ c.args.width) ≤ 10 ^ 37 =
    subst (λ (q : ℤ). unsigned_abs (q *ℤ c.args.width) ≤ 10 ^ 37) (sym is)
    (first_small c.args.least c.args.width c.requires.wide c.requires.least c.requires.small) in
    rw (to_z-of_z w128 c.floor_quotient.result quotient_fits, to_z-of_z w128 c.args.width width_fits)
    (fits_small (c.floor_quotient.result *ℤ c.args.width) small)
