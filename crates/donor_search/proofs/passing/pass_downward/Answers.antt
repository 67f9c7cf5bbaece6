use Rattle.std.proofs.Common.{arith, rules}
use Rattle.donor_search.specs.inner.Passings.{slots_of}
use Rattle.donor_search.specs.inner.Searches.{far_in}
use Rattle.donor_search.proofs.PassingLaws.{farther_below}
use Rattle.donor_search.proofs.passing.pass_downward.Goals as goal

pub loop-place-preserved : goal.loop-place-preserved
loop-place-preserved g c =
    let p = c.args.passing.now in
    let inv = c.loop-place.invariant in
    record {
      upto = omega (arith, inv.upto);
      far = farther_below (far_in p.search.now) p.most (slots_of p) c.loop-place.place c.args.end (omega (arith, c.loop-place-test.true)) inv.far
          (c.is_far.ensures (search rules));
    }
