use Rattle.std.proofs.Common.{◌≡◌, ◌∙◌, ℕ, ◌++◌, [], ◌∷◌, List, None, Option, ap, arith, length, refl, replicate}
use Rattle.std.proofs.lemmas.List.{length-replicate, replicate_more}
use Rattle.donor_book.proofs.indexes.no_replies.Goals as goal

pub loop-init : goal.loop-init
loop-init c = (c.in_ok-replies.ensures.items, refl)

pub push_reserved-requires : goal.push_reserved-requires
push_reserved-requires c =
    let inv = c.loop.invariant in
    let size = ap length inv.0 ∙ length-replicate c.loop.counter None in
    omega (arith, c.loop.replies.ok.0, size, inv.1, c.in_ok-replies.ensures.capacity, c.loop-test.true)

pub loop-preserved : goal.loop-preserved
loop-preserved c =
    let inv = c.loop.invariant in (
      c.push_reserved.ensures.items ∙ ap (λ (l : List (Option (Option ℕ))). l ++ None ∷ []) inv.0 ∙ replicate_more c.loop.counter None,
      c.push_reserved.ensures.capacity ∙ inv.1,
    )

pub returns : goal.returns
returns c =
    let end : c.loop.counter ≡ c.args.rows = omega (arith, c.loop-test.false, c.loop.auto.counter-end) in
    c.loop.invariant.0 ∙ ap (λ n. replicate n None) end
