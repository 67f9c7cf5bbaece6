-- What the text of a line is: nothing, a statement, or neither.
use Rattle.std.specs.Prelude.{◌≡◌, ◌≢◌, ℕ, List, []}
use Rattle.rule_grammar.specs.Names.{GivesNames}
use Rattle.rule_grammar.specs.Statements.{statement_tokens}
use Rattle.rule_grammar.specs.Tokens.{tokens_of}
use Rattle.rule_grammar.specs.declared.line.LineText.{LineText}
use Rattle.rule_grammar.specs.declared.line.LineText.TheVariants as line
use Rattle.rule_grammar.specs.declared.statement.Statement.{Statement as Written}

-- no token, the tokens of this statement, or tokens that are no statement's
abbrev pub IsLineText : List ℕ → LineText → Type 0
IsLineText text line.Empty = tokens_of text ≡ []
IsLineText text (line.Says s) = (tokens_of text ≡ statement_tokens s) × GivesNames s
IsLineText text line.Unreadable = (tokens_of text ≢ []) × ((s : Written) → tokens_of text ≢ statement_tokens s)
