use Rattle.std.proofs.Common.{◌≡◌, ◌++◌, codes, take}
use Rattle.std.specs.List.{AllByRecursion, flat_map}
use Rattle.proof_grammar.specs.ProofLines.{count_line, line_text}
use Rattle.proof_text.specs.inner.Texts.{verdict_text}
use Rattle.proof_grammar.specs.Sizes.{IsSizedVerdict}
use Rattle.proof_text.proofs.writing.write_verdicts.Given as goal

abbrev pub invariant-loop-verdict : goal.invariant-loop-verdict
invariant-loop-verdict l = (l.text.items ≡ l.fn.text.items ++ line_text (count_line (codes "lines") l.verdicts)
    ++ flat_map verdict_text (take l.verdict-index l.verdicts)) × AllByRecursion IsSizedVerdict (take l.verdict-index l.verdicts)
