use Rattle.std.proofs.Common.{ltb, ltb-true, arith, rules, ◌≤◌, false, ◌≡◌, ℕ}
use Rattle.std.proofs.lemmas.List.Sorted.{IsPartitionPoint-from_clause, IsPartitionedBy-ltb}
use Rattle.donor_search.proofs.span.Span.at.Goals as goal

not_below : (a b : ℕ) → ltb a b ≡ false → b ≤ a
not_below a b h = grind (arith, h)

pub returns-clause-span : goal.returns-clause-span
returns-clause-span c =
    let parted = IsPartitionedBy-ltb (λ s. s.bucket) _ c.args.bucket c.requires in
    let point = IsPartitionPoint-from_clause (λ s. ltb s.bucket c.args.bucket) _ _ c.partition_point-place.ensures.partitioned parted
    (λ a r q k. search rules) in
    let place = c.partition_point-place.result in
    let bound = c.partition_point-place.ensures.bound in record {
      rising = omega arith;
      within = bound;
      below = λ i less. let t = ltb-true _ _ (point.0 i (record { bucket = 0; donor = 0 }) (omega arith) less) in omega (arith, t);
      above = λ i least more. not_below _ _ (point.1 i (record { bucket = 0; donor = 0 }) least more);
    }
