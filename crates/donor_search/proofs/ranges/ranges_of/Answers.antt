use Rattle.std.proofs.Common.{ℕ, ◌≡◌, ◌∙◌, ◌+◌, ◌*◌, ap, arith}
use Rattle.donor_search.specs.Decks.{block_size, mark_at}
use Rattle.donor_search.proofs.RangeLaws.{blocks_step}
use Rattle.donor_search.proofs.ranges.ranges_of.Goals as goal

one_more : (n c : ℕ) → n * c + c ≡ (n + 1) * c
one_more n c = omega arith

pub loop-block-preserved : goal.loop-block-preserved
loop-block-preserved c =
    let block = c.loop-block.block in
    let count = c.args.count in
    let inv = c.loop-block.invariant in
    record {
      upto = omega (arith, inv.upto, c.loop-block-test.true);
      size = c.in_ok-push_ranges.ensures.size ∙ ap (λ n. n + count) inv.size ∙ one_more block count;
      within = blocks_step (λ b j f. mark_at c.args.marks.now count (b * block_size + j) f) count block c.loop-block.ranges.items
          c.push_ranges.new.ranges.items inv.size
          c.in_ok-push_ranges.ensures.kept inv.within c.in_ok-push_ranges.ensures.within;
    }
