use Rattle.std.proofs.Common.{◌∙◌, ◌+◌, List, ℕ, drop, map, nat_eq, sym, ap}
use Rattle.std.specs.Cmp.Lexicographic.{pointwise}
use Rattle.edit_line.specs.Shapes.{Domain, domain_with, whole_sets}
use Rattle.edit_line.proofs.WholeSets.{wholes-at}
use Rattle.edit_line.proofs.code_sets.are_whole.Goals as goal

pub returns-in-None : goal.returns-in-None
returns-in-None c =
    let counts = c.code_counts-count-items.result.now in
    let i = c.loop-count.count-index in
    let sets = c.args.sets.now in
    sym (c.in-None.ensures.none (whole_sets (map domain_with (drop (i + 1) counts)))) ∙ sym
    (ap (λ (ws : List ℕ). pointwise nat_eq (drop c.loop-count.place sets) ws) (wholes-at counts i 0 c.loop-count-test.true))
    ∙ c.loop-count.invariant ∙ ap (λ (shape : List Domain). pointwise nat_eq sets (whole_sets shape)) c.code_counts-count-items.ensures.domains
