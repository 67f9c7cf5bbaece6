use Rattle.std.proofs.Common.{arith, rules}
use Rattle.donor_search.specs.inner.Passings.{slots_of}
use Rattle.donor_search.specs.inner.Searches.{far_in}
use Rattle.donor_search.proofs.PassingLaws.{farther_above}
use Rattle.donor_search.proofs.passing.pass_upward.Goals as goal

pub loop-place-preserved : goal.loop-place-preserved
loop-place-preserved g c =
    let p = c.args.passing.now in
    let inv = c.loop-place.invariant in
    record {
      from = omega (arith, inv.from);
      upto = omega (arith, c.loop-place-test.true);
      within = inv.within;
      far = farther_above (far_in p.search.now) p.most (slots_of p) c.args.start c.loop-place.place inv.far (c.is_far.ensures (search rules));
    }

pub returns-then-is_block_far-clause-far : goal.returns-then-is_block_far-clause-far
returns-then-is_block_far-clause-far g c i least less = c.is_block_far.ensures.far (search rules) i (omega (arith, least)) less
