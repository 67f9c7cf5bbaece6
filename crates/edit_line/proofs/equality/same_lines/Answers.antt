use Rattle.std.proofs.Common.{◌≡◌, ◌+◌, ◌<◌, ◌&&◌, ◌∷◌, ◌∙◌, List, add-one, ap, arith, drop, get_or, length, suc, sym, ℕ}
use Rattle.std.proofs.Math.Seq.{drop-cons}
use Rattle.std.specs.Cmp.Lexicographic.{pointwise}
use Rattle.edit_line.specs.Equality.{same_numbered}
use Rattle.edit_line.specs.Lines.{LineParts}
use Rattle.edit_line.proofs.equality.same_lines.Goals as goal

-- the comparison from a place on, by the lines there
lines-at : (first second : List (ℕ × LineParts)) (i : ℕ) (a b : ℕ × LineParts) → i < length first → length first ≡ length second → a ≡ get_or first i a
    → b ≡ get_or second i b
    → pointwise same_numbered (drop i first) (drop i second) ≡ (same_numbered a b && pointwise same_numbered (drop (i + 1) first) (drop (i + 1) second))
lines-at first second i a b below many a_is b_is =
    rw (add-one) (ap (λ xs. pointwise same_numbered xs (drop i second)) (drop-cons first i a below)
    ∙ ap (λ ys. pointwise same_numbered (get_or first i a ∷ drop (suc i) first) ys) (drop-cons second i b (omega (arith, many)))
    ∙ (λ k. same_numbered (sym a_is k) (sym b_is k) && pointwise same_numbered (drop (suc i) first) (drop (suc i) second)))

pub returns-then-not-same_numbered : goal.returns-then-not-same_numbered
returns-then-not-same_numbered c =
    let first = c.args.first.now in
    let second = c.args.second.now in
    let i = c.loop-i.i in
    sym (lines-at first second i c.index-first-i.result c.index-second-i.result c.loop-i-test.true c.if-first-second.false c.index-first-i.is
    c.index-second-i.is ∙ ap (λ b. b && pointwise same_numbered (drop (i + 1) first) (drop (i + 1) second))
    (sym c.same_numbered.ensures ∙ c.if-not-same_numbered.true)) ∙ c.loop-i.invariant

pub loop-i-preserved : goal.loop-i-preserved
loop-i-preserved c =
    let first = c.args.first.now in
    let second = c.args.second.now in
    let i = c.loop-i.i in
    sym (lines-at first second i c.index-first-i.result c.index-second-i.result c.loop-i-test.true c.if-first-second.false c.index-first-i.is
    c.index-second-i.is ∙ ap (λ b. b && pointwise same_numbered (drop (i + 1) first) (drop (i + 1) second))
    (sym c.same_numbered.ensures ∙ c.if-not-same_numbered.false)) ∙ c.loop-i.invariant
