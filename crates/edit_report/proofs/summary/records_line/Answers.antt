use Rattle.std.proofs.Common.{length, rules, tests, ◌≡◌}
use Rattle.std.specs.List.{filter}
use Rattle.std.proofs.lemmas.Iterator.{YieldsList-from_slice}
use Rattle.std.proofs.lemmas.Iterator.Consumers.{YieldsList-from_filter, count_from_yields_List}
use Rattle.edit_report.specs.Summaries.{is_changed, keeps_all, is_unresolved}
use Rattle.edit_report.proofs.summary.records_line.Goals as goal

pub returns : goal.returns
returns c =
    let clean : c.count-clean.result ≡ length (filter keeps_all c.args.ends.now) =
    count_from_yields_List c.filter.result c.count-clean.result c.count-clean.ensures.ran
    (YieldsList-from_filter _ keeps_all (YieldsList-from_slice c.args.ends.now (cc)) c.filter.ensures.closure (λ x b q k. search (rules, tests))) in
    let changed : c.count-changed.result ≡ length (filter is_changed c.args.ends.now) =
    count_from_yields_List c.filter-2.result c.count-changed.result c.count-changed.ensures.ran
    (YieldsList-from_filter _ is_changed (YieldsList-from_slice c.args.ends.now (cc)) c.filter-2.ensures.closure (λ x b q k. search (rules, tests))) in
    let unresolved : c.count-unresolved.result ≡ length (filter is_unresolved c.args.ends.now) =
    count_from_yields_List c.filter-3.result c.count-unresolved.result c.count-unresolved.ensures.ran
    (YieldsList-from_filter _ is_unresolved (YieldsList-from_slice c.args.ends.now (cc)) c.filter-3.ensures.closure (λ x b q k. search (rules, tests))) in
    rw (← clean, ← changed, ← unresolved, ← c.weight_of_changes-weight.ensures) c.summary_line.ensures
