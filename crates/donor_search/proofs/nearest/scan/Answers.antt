use Rattle.std.proofs.Common.{◌∙◌, ℕ, List, [], ap, arith, get_or, map, refl, take}
use Rattle.std.specs.List.{take-map}
use Rattle.std.proofs.lemmas.List.{take_all}
use Rattle.donor_search.specs.inner.Candidates.{candidate_of, is_before}
use Rattle.donor_search.specs.inner.Searches.{far_in}
use Rattle.donor_search.specs.Rankings.{in_order, is_nearer, placed}
use Rattle.donor_search.proofs.OrderLaws.{nearest_order}
use Rattle.donor_search.proofs.RankingLaws.{few_taken, order-map, ranked_more}
use Rattle.donor_search.proofs.nearest.scan.Goals as goal

pub rank-requires-clause-order : goal.rank-requires-clause-order
rank-requires-clause-order g c =
    nearest_order c.args.search.now.near
    (map (candidate_of (far_in c.args.search.now)) (take c.loop-donor.donor-index c.rows-donor-items.result.now)) c.loop-donor.nearest.items
    c.loop-donor.invariant.ranked

pub loop-donor-preserved : goal.loop-donor-preserved
loop-donor-preserved g c =
    let near : ℕ = c.args.search.now.near in
    let far : ℕ → ℕ = far_in c.args.search.now in
    let donor : ℕ = get_or c.rows-donor-items.result.now c.loop-donor.donor-index 0 in
    record {
      ranked = ranked_more far near c.rows-donor-items.result.now c.loop-donor.donor-index donor c.loop-donor.nearest.items c.rank.new.best.items
          c.loop-donor-test.true refl c.loop-donor.invariant.ranked c.in_ok-rank.ensures.ranks;
      few = few_taken near (placed is_before (candidate_of far donor) c.loop-donor.nearest.items) c.rank.new.best.items c.in_ok-rank.ensures.ranks;
      most = omega (arith, c.loop-donor.invariant.most, c.rank.ensures.steps);
    }

pub returns-clause-ranked : goal.returns-clause-ranked
returns-clause-ranked g c =
    let near : ℕ = c.args.search.now.near in
    let far : ℕ → ℕ = far_in c.args.search.now in
    let items = c.rows-donor-items.result.now in
    c.loop-donor.invariant.ranked
    ∙ ap (λ (ds : List ℕ). take near (in_order is_before (map (candidate_of far) ds)))
    (take_all c.loop-donor.donor-index items c.loop-donor-test.false ∙ c.rows-donor-items.ensures.rows)
    ∙ ap (take near) (order-map far c.args.search.now.deck.now.donors [])
    ∙ take-map (candidate_of far) near (in_order (is_nearer far) c.args.search.now.deck.now.donors)
