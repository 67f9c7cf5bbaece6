use Rattle.std.proofs.Common.{length, rules, tests, ◌≡◌}
use Rattle.std.specs.Prelude.{is_none, is_some}
use Rattle.std.specs.List.{filter}
use Rattle.std.proofs.lemmas.Iterator.{YieldsList-from_slice}
use Rattle.std.proofs.lemmas.Iterator.Consumers.{YieldsList-from_filter, count_from_yields_List}
use Rattle.donor_book.specs.declared.claim.Won.{Won}
use Rattle.claims_bench.proofs.counts_text.Goals as goal

pub returns : goal.returns
returns c =
    let given : c.count-given.result ≡ length (filter (λ (w : Won). is_some w.reply) c.args.history.now) =
    count_from_yields_List c.filter.result c.count-given.result c.count-given.ensures.ran
    (YieldsList-from_filter _ (λ (w : Won). is_some w.reply) (YieldsList-from_slice c.args.history.now (cc)) c.filter.ensures.closure
    (λ x b q k. search (rules, tests))) in
    let nobody : c.count-nobody.result ≡ length (filter (λ (w : Won). is_none w.reply) c.args.history.now) =
    count_from_yields_List c.filter-2.result c.count-nobody.result c.count-nobody.ensures.ran
    (YieldsList-from_filter _ (λ (w : Won). is_none w.reply) (YieldsList-from_slice c.args.history.now (cc)) c.filter-2.ensures.closure
    (λ x b q k. search (rules, tests))) in
    rw (← given, ← nobody) c.in_ok-format.ensures.ok
