use Rattle.std.proofs.Common.{rules, ◌≡◌, ◌∙◌, ◌++◌, ℕ, ap, codes}
use Rattle.std.specs.Fmt.{decimal}
use Rattle.page_sections.proofs.head.summary.Goals as goal

pub returns : goal.returns
returns c =
    let bytes : c.into_bytes.result.items ≡ c.in_ok-words.words.bytes.items = search rules in
    let words = λ (n : ℕ).
    decimal c.args.rows ++ (codes " records: " ++ (decimal c.args.counts.now.clean ++ (codes " clean, "
    ++ (decimal c.args.counts.now.changed ++ (codes " changed, " ++ (decimal n ++ codes " left out.")))))) in
    bytes ∙ c.in_ok-words.ensures.ok ∙ ap words c.left_out_total-left_out.ensures
