use Rattle.std.proofs.Common.{◌≡◌, rules, sym, ◌∙◌}
use Rattle.proof_text.specs.inner.Texts.{parts_text}
use Rattle.proof_text.proofs.PartTexts.{proof-parts}
use Rattle.proof_grammar.proofs.ProofWords.{text-once}
use Rattle.proof_text.proofs.writing.write_proof.Goals as goal

pub returns-clause-text : goal.returns-clause-text
returns-clause-text c =
    let parts : c.write_parts.new.text.items ≡ parts_text c.args.proof.now = search rules in
    parts ∙ sym (proof-parts c.args.proof.now)

pub returns-clause-only : goal.returns-clause-only
returns-clause-only c = λ plain other fine same. text-once other c.args.proof.now fine plain (sym same ∙ returns-clause-text c)
