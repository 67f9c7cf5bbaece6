use Rattle.certificate_bench.proofs.CaseLaws.{false-line}
use Rattle.certificate_bench.proofs.verdict.false_line.Goals as goal

pub new-requires-2 : goal.new-requires-2
new-requires-2 c = false-line c.args.count c.args.survey.now.fields c.new.result.items c.in_ok-factors.factors.items c.requires c.new.ensures.items
    (c.in_ok-factors.ensures.items_if_clones_equal (λ y e. e))
