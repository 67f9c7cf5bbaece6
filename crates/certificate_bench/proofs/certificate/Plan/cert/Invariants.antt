use Rattle.std.proofs.Common.{◌≡◌, map}
use Rattle.std.specs.List.{range_with_len}
use Rattle.certificate_bench.specs.inner.Certificates.{leaf_at}
use Rattle.certificate_bench.proofs.certificate.Plan.cert.Given as goal

abbrev pub invariant-loop-number : goal.invariant-loop-number
invariant-loop-number l = l.leaves.items ≡ map (λ number. leaf_at l.self number) (range_with_len 0 l.number)
