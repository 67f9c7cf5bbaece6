use Rattle.std.proofs.Common.{◌≤◌, ◌<◌, ◌^◌, arith, drop, length, rules, sym, subst, ℕ}
use Rattle.std.proofs.lemmas.List.{length-drop}
use Rattle.localise_tree.proofs.KnownLaws.{small-number}
use Rattle.localise_tree.proofs.known.letters_number.Goals as goal

pub overflow_mul-number : goal.overflow_mul-number
overflow_mul-number c =
    let letters = c.args.letters.now in
    let short : length (drop c.loop-left.left letters) ≤ 64 = omega (arith, length-drop c.loop-left.left letters, c.requires) in
    let small : c.loop-left.number < 2 ^ 65 = subst (λ (n : ℕ). n < 2 ^ 65) (sym c.loop-left.invariant.0)
    (small-number (drop c.loop-left.left letters) short) in
    omega (arith, small)

pub overflow_add-number : goal.overflow_add-number
overflow_add-number c =
    let letters = c.args.letters.now in
    let short : length (drop c.loop-left.left letters) ≤ 64 = omega (arith, length-drop c.loop-left.left letters, c.requires) in
    let small : c.loop-left.number < 2 ^ 65 = subst (λ (n : ℕ). n < 2 ^ 65) (sym c.loop-left.invariant.0)
    (small-number (drop c.loop-left.left letters) short) in
    let bit : c.from.result ≤ 1 = search rules in
    omega (arith, small, bit)
