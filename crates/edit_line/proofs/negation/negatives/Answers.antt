use Rattle.std.proofs.Common.{◌≡◌, ◌<◌, ◌+◌, ◌++◌, ◌∷◌, ◌∙◌, [], FitsSigned, List, get_or, length, map, pos, rules, sym, take, ℕ, ℤ, arith}
use Rattle.std.proofs.lemmas.Int.{to_z-of_z}
use Rattle.std.proofs.lemmas.List.{map_more}
use lib.IntN.{neg_ℤ}
use mir.Syntax.{w128}
use Rattle.std.proofs.lemmas.Grind.{common_steps}
use Rattle.edit_line.proofs.negation.negatives.Goals as goal

-- the negatives up to a place, and with the one there
negatives-more : (numbers others after : List ℤ) (i : ℕ) (z : ℤ) → i < length numbers → others ≡ map neg_ℤ (take i numbers)
    → z ≡ neg_ℤ (get_or numbers i (pos 0)) → after ≡ others ++ z ∷ [] → after ≡ map neg_ℤ (take (i + 1) numbers)
negatives-more numbers others after i z below before is after_is =
    after_is ∙ (λ k. before k ++ is k ∷ []) ∙ sym (map_more neg_ℤ numbers i (pos 0) below)

pub loop-number-preserved : goal.loop-number-preserved
loop-number-preserved c =
    let numbers = c.args.numbers.now in
    let i = c.loop-number.number-index in
    let from_fits : FitsSigned w128 (get_or numbers i (pos 0)) = search rules in
    let to_fits : FitsSigned w128 c.negative.result = search rules in
    let is = simp to_z-of_z at c.negative.ensures.value in
    let pushed = simp to_z-of_z at c.in_ok-push.ensures.items in
    negatives-more numbers c.loop-number.others.items c.push.new.self.items i c.negative.result c.loop-number-test.true c.loop-number.invariant is pushed

pub returns : goal.returns
returns c = grind (arith, common_steps)
