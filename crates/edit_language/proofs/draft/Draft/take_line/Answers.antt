use Rattle.std.proofs.Common.{sym, ◌∙◌}
use Rattle.edit_language.proofs.GrammarLaws.{says_of, told_by_line}
use Rattle.edit_language.proofs.draft.Draft.take_line.Goals as goal

pub returns-in-Says-clause-fault : goal.returns-in-Says-clause-fault
returns-in-Says-clause-fault c =
    let says = says_of c.args.line.now c.part_to_read-text.result.now c.in_ok-read_line.field-0 c.in-Says.statement c.part_to_read-text.ensures
    (sym c.has_bad_byte.ensures ∙ c.if-has_bad_byte.false) c.in-Says.is c.in_ok-read_line.ensures.text in
    told_by_line c.args.line.now c.args.self.now c.args.number c.in-Says.statement c.take_statement.result says c.take_statement.ensures.fault
