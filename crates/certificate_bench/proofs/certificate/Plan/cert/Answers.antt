use Rattle.std.proofs.Common.{◌≡◌, ◌∙◌, arith}
use Rattle.certificate_bench.specs.inner.Certificates.{leaf_at}
use Rattle.certificate_bench.proofs.PlanLaws.{leaf-count, leaves-made, list-more, step-count}
use Rattle.certificate_bench.proofs.certificate.Plan.cert.Goals as goal

pub loop-number-preserved : goal.loop-number-preserved
loop-number-preserved c = list-more (λ number. leaf_at c.args.self number) c.loop-number.number c.loop-number.leaves.items c.push.new.self.items
    c.in_ok-leaf.field-0 c.in_ok-push.ensures.items c.loop-number.invariant c.in_ok-leaf.ensures

pub returns-clause-count : goal.returns-clause-count
returns-clause-count c =
    let all : c.loop-number.number ≡ c.leaf_count-count.result = omega (arith, c.loop-number-test.false, c.loop-number.auto.number-end) in
    leaf-count c.args.self c.from_vec.result (leaves-made c.args.self c.loop-number.number c.from_vec.result c.loop-number.leaves.items c.from_vec.ensures
    c.loop-number.invariant (all ∙ c.leaf_count-count.ensures))

pub returns-clause-steps : goal.returns-clause-steps
returns-clause-steps c =
    let all : c.loop-number.number ≡ c.leaf_count-count.result = omega (arith, c.loop-number-test.false, c.loop-number.auto.number-end) in
    step-count c.args.self c.from_vec.result (leaves-made c.args.self c.loop-number.number c.from_vec.result c.loop-number.leaves.items c.from_vec.ensures
    c.loop-number.invariant (all ∙ c.leaf_count-count.ensures))
