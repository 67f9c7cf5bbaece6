use Rattle.std.proofs.Common.{◌≡◌, ◌+◌, ◌==◌, map}
use Rattle.std.specs.List.{range_with_len}
use Rattle.certificate_bench.specs.inner.Certificates.{step_where}
use Rattle.certificate_bench.proofs.certificate.steps_of.Given as goal

abbrev pub invariant-loop-place : goal.invariant-loop-place
invariant-loop-place l = l.steps.items ≡ map (λ place. step_where l.broken (place + 1 == l.count)) (range_with_len 0 l.place)
