use Rattle.std.proofs.Common.{◌≡◌, ◌<◌, ◌+◌, ◌++◌, ◌∷◌, ◌∙◌, [], List, ap, append_assoc, drop, get_or, length, map, refl, suc, sym, zero, ℕ, arith}
use Rattle.std.proofs.lemmas.List.{at_drop_more}
use Rattle.edit_line.specs.Shapes.{Domain, domain_with, whole_sets}
use Rattle.std.proofs.lemmas.Grind.{common_steps}
use Rattle.edit_line.proofs.shape.Shape.whole_sets.Goals as goal

whole-first : (count : ℕ) (shape : List Domain) → whole_sets (domain_with count ∷ []) ++ whole_sets shape ≡ whole_sets (domain_with count ∷ shape)
whole-first zero shape = refl
whole-first (suc count) shape = refl

-- the whole sets up to a place, and with that of the field there
wholes-more : (counts before after all : List ℕ) (i : ℕ) → i < length counts → before ++ whole_sets (map domain_with (drop i counts)) ≡ all
    → after ≡ before ++ whole_sets (domain_with (get_or counts i 0) ∷ []) → after ++ whole_sets (map domain_with (drop (i + 1) counts)) ≡ all
wholes-more counts before after all i below so_far after_is =
    let rest = map domain_with (drop (i + 1) counts) in
    ap (λ (ws : List ℕ). ws ++ whole_sets rest) after_is ∙ append_assoc before _ (whole_sets rest)
    ∙ ap (λ (ws : List ℕ). before ++ ws) (whole-first (get_or counts i 0) rest
    ∙ sym (at_drop_more (λ (ns : List ℕ). whole_sets (map domain_with ns)) counts i 0 below))
    ∙ so_far

pub loop-count-preserved : goal.loop-count-preserved
loop-count-preserved c = wholes-more c.code_counts-count-items.result.now c.loop-count.sets.items c.push_whole.new.sets.items _ c.loop-count.count-index
    c.loop-count-test.true c.loop-count.invariant c.in_ok-push_whole.ensures

pub returns : goal.returns
returns c = grind (arith, common_steps)
