use Rattle.std.proofs.Common.{false, true}
use Rattle.std.proofs.lemmas.Option.{IfSome_then}
use Rattle.rule_grammar.proofs.CursorSteps.{first_token}
use Rattle.rule_grammar.proofs.cursor.lexeme.first_lexeme.Goals as goal

pub returns-then-inside-clause-some : goal.returns-then-inside-clause-some
returns-then-inside-clause-some c =
    IfSome_then c.lexeme_in_braces.result c.lexeme_in_braces.ensures.some
    (λ l front. first_token c.args.inside true c.args.text.now c.without_blanks-text.result.now l.token l.rest.now c.if-inside.true
    c.without_blanks-text.ensures front)

pub returns-else-inside-clause-some : goal.returns-else-inside-clause-some
returns-else-inside-clause-some c =
    IfSome_then c.lexeme_outside.result c.lexeme_outside.ensures.some
    (λ l front. first_token c.args.inside false c.args.text.now c.without_blanks-text.result.now l.token l.rest.now c.if-inside.false
    c.without_blanks-text.ensures front)
