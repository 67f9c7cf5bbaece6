use Rattle.std.proofs.Common.{Global, Vec, ap, length, rules, tests, ◌∙◌, ◌≡◌, ℕ}
use Rattle.std.specs.List.{filter}
use Rattle.std.proofs.lemmas.Iterator.{YieldsList-from_slice}
use Rattle.std.proofs.lemmas.Iterator.Consumers.{YieldsList-from_filter, count_from_yields_List}
use Rattle.edit_report.specs.Summaries.{has_donor}
use Rattle.edit_report.proofs.summary.claims_line.Goals as goal

pub returns : goal.returns
returns c =
    let given : c.count-given.result ≡ length (filter has_donor c.args.history.now) =
    count_from_yields_List c.filter.result c.count-given.result c.count-given.ensures.ran
    (YieldsList-from_filter _ has_donor (YieldsList-from_slice c.args.history.now (cc)) c.filter.ensures.closure (λ x b q k. search (rules, tests))) in
    rw (← given) (ap (λ (v : Vec ℕ Global). v.items) c.into_bytes.ensures.value ∙ c.in_ok-format.ensures.ok)
