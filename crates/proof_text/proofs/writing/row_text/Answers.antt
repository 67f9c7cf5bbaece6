use Rattle.std.proofs.Common.{◌≡◌, rules, sym, ◌∙◌}
use Rattle.proof_text.specs.RowTexts.{row_text}
use Rattle.proof_text.proofs.RowOnce.{row-once}
use Rattle.proof_text.proofs.writing.row_text.Goals as goal

pub returns-clause-only : goal.returns-clause-only
returns-clause-only c = λ fits other fine same.
    let text : c.write_row.new.text.items ≡ row_text c.args.row.now = search rules in
    row-once other c.args.row.now fine fits (sym same ∙ text)
