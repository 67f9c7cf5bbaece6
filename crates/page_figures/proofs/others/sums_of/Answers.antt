use Rattle.page_figures.proofs.Names.{◌∙◌, ◌++◌, ◌∷◌, ℕ, List, [], ap, map, sym}
use Rattle.std.proofs.Common.{arith}
use Rattle.std.specs.List.{range_with_len}
use Rattle.std.proofs.lemmas.List.FromFn.{map-range_with_len_more}
use Rattle.page_figures.specs.Drawings.{parts_of}
use Rattle.page_figures.specs.Figures.{sum_at}
use Rattle.page_figures.proofs.others.sums_of.Goals as goal

pub loop-place-preserved : goal.loop-place-preserved
loop-place-preserved c =
    let at = λ (p : ℕ). sum_at p (map parts_of c.args.bars.now) in
    c.in_ok-push.ensures.items ∙ ap (λ (ps : List ℕ). ps ++ c.sum_at.result ∷ []) c.loop-place.invariant
    ∙ ap (λ (x : ℕ). map at (range_with_len 0 c.loop-place.place) ++ x ∷ []) c.sum_at.ensures
    ∙ sym (map-range_with_len_more at 0 c.loop-place.place c.loop-place.place (omega arith))
