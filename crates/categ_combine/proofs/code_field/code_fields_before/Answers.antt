use Rattle.std.proofs.Common.{nat_lt, take, rules, tests}
use Rattle.std.proofs.lemmas.Iterator.{YieldsList-from_slice}
use Rattle.std.proofs.lemmas.Iterator.Consumers.{YieldsList-from_filter, count_from_yields_List}
use Rattle.categ_combine.proofs.code_field.code_fields_before.Goals as goal

pub returns : goal.returns
returns c =
    count_from_yields_List c.filter.result _ c.count.ensures.ran (
    YieldsList-from_filter {ys = take c.args.field c.args.counts.now} _ (λ k. nat_lt 0 k) (YieldsList-from_slice (take c.args.field c.args.counts.now) cc)
    c.filter.ensures.closure (λ x r q k. search (rules, tests))
    )
