use Rattle.std.proofs.Common.{◌∙◌, ◌++◌, List, [], ◌∷◌, ap, arith, get_or, sym, take}
use Rattle.std.proofs.lemmas.List.{length-take-le, take_more}
use Rattle.page_counts.specs.declared.amounts.Amount.{Amount}
use Rattle.release_figures.specs.Figures.{numbered}
use Rattle.release_figures.proofs.FigureLaws.{numbered_more}
use Rattle.release_figures.proofs.numbered.number_sizes.Goals as goal

pub loop-place-preserved : goal.loop-place-preserved
loop-place-preserved c =
    let n = c.loop-place.place in
    let sizes = c.args.sizes.now in
    let size = get_or sizes n 0 in
    let more = ap (numbered 0) (take_more sizes n 0 (omega arith))
    ∙ numbered_more 0 n (take n sizes) size (omega (arith, length-take-le n sizes (omega arith))) in
    c.in_ok-push.ensures.items
    ∙ ap (λ (amounts : List Amount). amounts ++ record { number = n; size = size } ∷ []) c.loop-place.invariant ∙ sym more
