use Rattle.std.proofs.Common.{ℕ, ◌-◌, ◌==◌, ap}
use Rattle.std.specs.Int.{bit_at}
use Rattle.std.proofs.lemmas.Nat.Bits.{shr_and_one}
use Rattle.certificate_bench.proofs.PlanLaws.{list-more}
use Rattle.certificate_bench.proofs.certificate.path_to.Goals as goal

pub loop-place-preserved : goal.loop-place-preserved
loop-place-preserved c =
    list-more (λ place. bit_at c.args.number (c.args.depth - 1 - place) == 1) c.loop-place.place c.loop-place.letters.items c.push.new.self.items _
    c.in_ok-push.ensures.items c.loop-place.invariant
    (ap (λ (b : ℕ). b == 1) (shr_and_one c.args.number (c.args.depth - 1 - c.loop-place.place)))
