use Rattle.std.proofs.Common.{inr, arith, ◌≤◌, nat_lt, false, ◌≡◌, ℕ}
use Rattle.donor_search.proofs.ReachLaws.{reaches_less}
use Rattle.donor_search.proofs.candidate.is_closed_at.Goals as goal

pub returns-in-Some-clause-reaches : goal.returns-in-Some-clause-reaches
returns-in-Some-clause-reaches c =
    λ below some. inr (reaches_less c.args.gap c.in-Some.most c.args.nearest.now (near c.in-Some.most c.args.gap below) c.in-Some.ensures.reached)
  where
    near : (m g : ℕ) → nat_lt m g ≡ false → g ≤ m
    near m g h = grind (arith, h)
