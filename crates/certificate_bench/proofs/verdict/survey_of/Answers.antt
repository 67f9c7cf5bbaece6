use Rattle.std.proofs.Common.{◌+◌, arith}
use Rattle.certificate_bench.specs.inner.Cases.{field_named}
use Rattle.certificate_bench.proofs.CaseLaws.{form-more, well-formed}
use Rattle.certificate_bench.proofs.PlanLaws.{list-more}
use Rattle.certificate_bench.proofs.verdict.survey_of.Goals as goal

pub loop-i-preserved : goal.loop-i-preserved
loop-i-preserved c =
    let inv = c.loop-i.invariant in (
      list-more (λ i. field_named (97 + i)) c.loop-i.i c.loop-i.fields.items c.push.new.self.items c.field_named.result c.in_ok-push.ensures.items inv.0
          c.field_named.ensures.field,
      form-more c.loop-i.fields.items c.push.new.self.items c.field_named.result c.in_ok-push.ensures.items c.field_named.ensures.form inv.1,
    )

pub of-requires : goal.of-requires
of-requires c = well-formed c.loop-i.i c.loop-i.fields.items c.new.result.items (omega (arith, c.requires, c.loop-i.auto.i-end)) c.loop-i.invariant.0
    c.new.ensures.items c.loop-i.invariant.1
