use Rattle.std.proofs.Common.{◌≡◌, ◌++◌, drop}
use Rattle.edit_language.specs.Printing.{sum_text}
use Rattle.rule_report.specs.LineTexts.{line_terms}
use Rattle.rule_report.proofs.SumLaws.{rest_text}
use Rattle.rule_report.proofs.sums.write_sum.Given as goal

abbrev pub invariant-loop-place : goal.invariant-loop-place
invariant-loop-place l = l.text.items ++ rest_text l.first l.fields (line_terms (drop l.place l.numbers) (drop l.place l.factors)) l.constant ≡ l.fn.text.items
    ++ sum_text l.fields (line_terms l.numbers l.factors) l.constant
