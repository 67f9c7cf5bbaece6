use Rattle.std.proofs.Common.{◌∙◌}
use Rattle.certificate_bench.proofs.CaseLaws.{unknown-row}
use Rattle.certificate_bench.proofs.verdict.unknown_row.Goals as goal

pub new-requires : goal.new-requires
new-requires c = unknown-row c.args.count c.args.survey.now.fields c.in_ok-values.values.items c.requires
    (c.in_ok-values.ensures.items_if_clones_equal (λ y e. e))

pub returns-clause-row : goal.returns-clause-row
returns-clause-row c = unknown-row c.args.count c.args.survey.now.fields c.new.result c.requires
    (c.new.ensures ∙ c.in_ok-values.ensures.items_if_clones_equal (λ y e. e))
