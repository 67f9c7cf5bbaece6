use Rattle.std.proofs.Common.{◌+◌, ◌==◌}
use Rattle.certificate_bench.specs.inner.Certificates.{step_where}
use Rattle.certificate_bench.proofs.PlanLaws.{list-more}
use Rattle.certificate_bench.proofs.certificate.steps_of.Goals as goal

pub loop-place-preserved : goal.loop-place-preserved
loop-place-preserved c = list-more (λ place. step_where c.args.broken (place + 1 == c.args.count)) c.loop-place.place c.loop-place.steps.items
    c.push.new.self.items c.step_where.result c.in_ok-push.ensures.items c.loop-place.invariant c.step_where.ensures
