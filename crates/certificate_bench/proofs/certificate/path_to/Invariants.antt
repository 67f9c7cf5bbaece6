use Rattle.std.proofs.Common.{◌≡◌, ◌-◌, ◌==◌, map}
use Rattle.std.specs.Int.{bit_at}
use Rattle.std.specs.List.{range_with_len}
use Rattle.certificate_bench.proofs.certificate.path_to.Given as goal

abbrev pub invariant-loop-place : goal.invariant-loop-place
invariant-loop-place l = l.letters.items ≡ map (λ place. bit_at l.number (l.depth - 1 - place) == 1) (range_with_len 0 l.place)
