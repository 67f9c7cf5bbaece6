use Rattle.std.proofs.Common.{◌≡◌, ◌∙◌, ℤ, FitsSigned, false, ap, of_z, rules, sym, to_z}
use Rattle.std.proofs.lemmas.Int.{to_z-of_z}
use mir.Syntax.{w128}
use Rattle.page_counts.specs.Bins.{reaches, round_width}
use Rattle.page_counts.proofs.BinLaws.{none_before}
use Rattle.page_counts.proofs.widths.width_over.Goals as goal

pub loop-step-preserved : goal.loop-step-preserved
loop-step-preserved c =
    let least : ℤ = to_z w128 (of_z w128 c.args.least) in
    let greatest : ℤ = to_z w128 (of_z w128 c.args.greatest) in
    let unit : ℤ = to_z w128 (of_z w128 c.args.unit) in
    let fits : FitsSigned w128 c.round_width-width.result = search rules in
    let here : reaches least greatest unit (round_width c.loop-step.step) ≡ false =
    ap (reaches least greatest unit) (sym (to_z-of_z w128 c.round_width-width.result fits ∙ c.round_width-width.ensures.is))
    ∙ sym c.reaches.ensures ∙ c.if-reaches.false in
    none_before least greatest unit c.loop-step.step c.loop-step.invariant here
