use Rattle.std.proofs.Common.{◌≡◌, ◌∙◌, Err, List, None, ap, false, subst, sym}
use Rattle.rule_grammar.proofs.LineLaws.{line_empty, line_left, line_says, line_unread}
use Rattle.rule_grammar.proofs.LongestTokens.{tokens_are_longest}
use Rattle.rule_grammar.specs.inner.Parsing.{Parses, Reading, ends, statement_at}
use Rattle.rule_grammar.specs.declared.parser.fault.Fault.{Fault as Stop}
use Rattle.rule_grammar.specs.declared.parser.fault.Fault.TheVariants as stop
use Rattle.rule_grammar.specs.declared.token.Token.{Token}
use Rattle.rule_grammar.proofs.line.read_line.Goals as goal

-- what cannot be read is nothing
unread : {X : Type 0} (reading : Reading X) (left : List Token) (e : Stop) → e ≡ stop.Unreadable → Parses reading left (Err e) → reading ≡ None
unread reading left e is = subst (λ (e : Stop). Parses reading left (Err e)) is

pub returns-then-is_over-clause-text : goal.returns-then-is_over-clause-text
returns-then-is_over-clause-text c = line_empty c.args.text.now (ap ends (sym c.new-cursor.ensures) ∙ sym c.if-is_over.ensures)

pub returns-then-is_over-clause-longest : goal.returns-then-is_over-clause-longest
returns-then-is_over-clause-longest c = tokens_are_longest false c.args.text.now

pub returns-in-Err-Unreadable-clause-text : goal.returns-in-Err-Unreadable-clause-text
returns-in-Err-Unreadable-clause-text c =
    line_unread c.args.text.now (ap ends (sym c.new-cursor.ensures) ∙ sym c.if-is_over.ensures) (ap statement_at (sym c.new-cursor.ensures)
    ∙ unread _ c.read_statement.new.cursor _ c.in-Err-Unreadable.field-0-is c.in-Err-Unreadable.ensures)

pub returns-in-Err-Unreadable-clause-longest : goal.returns-in-Err-Unreadable-clause-longest
returns-in-Err-Unreadable-clause-longest c = tokens_are_longest false c.args.text.now

pub returns-then-not-is_over-clause-text : goal.returns-then-not-is_over-clause-text
returns-then-not-is_over-clause-text c = line_left c.args.text.now c.in-Ok.says c.read_statement.new.cursor
    (ap ends (sym c.new-cursor.ensures) ∙ sym c.if-is_over.ensures) (ap statement_at (sym c.new-cursor.ensures) ∙ c.in-Ok.ensures)
    (sym c.if-not-is_over.ensures)

pub returns-then-not-is_over-clause-longest : goal.returns-then-not-is_over-clause-longest
returns-then-not-is_over-clause-longest c = tokens_are_longest false c.args.text.now

pub returns-clause-text : goal.returns-clause-text
returns-clause-text c = line_says c.args.text.now c.in-Ok.says c.read_statement.new.cursor (ap statement_at (sym c.new-cursor.ensures) ∙ c.in-Ok.ensures)
    (sym c.if-not-is_over.ensures)

pub returns-clause-longest : goal.returns-clause-longest
returns-clause-longest c = tokens_are_longest false c.args.text.now
