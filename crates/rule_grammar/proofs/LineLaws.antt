-- What the text of a line is, told by what is read from its tokens; and a text is one line's at most.
use Rattle.std.proofs.Common.{◌≡◌, ◌≢◌, refl, sym, ap, ◌∙◌, ℕ, true, false, Some, None, List, [], ◌∷◌}
use Rattle.rule_grammar.proofs.StatementLaws.{not_left, not_read, one_statement, read_whole, says_some}
use Rattle.rule_grammar.proofs.TokenNames.{names_of_text}
use Rattle.rule_grammar.specs.LineTexts.{IsLineText}
use Rattle.rule_grammar.specs.inner.Parsing.{ends, statement_at}
use Rattle.rule_grammar.specs.Tokens.{tokens_of}
use Rattle.rule_grammar.specs.declared.line.LineText.{LineText}
use Rattle.rule_grammar.specs.declared.line.LineText.TheVariants as line
use Rattle.rule_grammar.specs.declared.statement.Statement.{Statement as Written}
use Rattle.rule_grammar.specs.declared.token.Token.{Token}

pub line_empty : (text : List ℕ) → ends (tokens_of text) ≡ true → IsLineText text line.Empty
line_empty text none = nothing (tokens_of text) none
  where
    nothing : (ts : List Token) → ends ts ≡ true → ts ≡ []
    nothing [] over = refl
    nothing (t ∷ ts) over = absurd (cc)

pub line_says : (text : List ℕ) (s : Written) (left : List Token) → statement_at (tokens_of text) ≡ Some (s, left) → ends left ≡ true
    → IsLineText text (line.Says s)
line_says text s [] read over =
    let whole = read_whole (tokens_of text) s read in
    (whole, names_of_text text s whole)
line_says text s (first ∷ left) read over = absurd (cc)

some_tokens : (ts : List Token) → ends ts ≡ false → ts ≢ []
some_tokens ts some none =
    let same : ends ts ≡ true = ap ends none in
    cc

pub line_unread : (text : List ℕ) → ends (tokens_of text) ≡ false → statement_at (tokens_of text) ≡ None → IsLineText text line.Unreadable
line_unread text some read = (some_tokens (tokens_of text) some, λ s. not_read (tokens_of text) s read)

pub line_left : (text : List ℕ) (s : Written) (left : List Token) → ends (tokens_of text) ≡ false → statement_at (tokens_of text) ≡ Some (s, left)
    → ends left ≡ false → IsLineText text line.Unreadable
line_left text s [] some read over = absurd (cc)
line_left text s (first ∷ left) some read over = (some_tokens (tokens_of text) some, λ t. not_left (tokens_of text) s t first left read)

-- a text is one line's at most
pub one_line_text : (text : List ℕ) (a b : LineText) → IsLineText text a → IsLineText text b → a ≡ b
one_line_text text line.Empty line.Empty is_a is_b = refl
one_line_text text line.Empty (line.Says s) is_a is_b = absurd (says_some s (sym is_b.0 ∙ is_a))
one_line_text text line.Empty line.Unreadable is_a is_b = absurd (is_b.0 is_a)
one_line_text text (line.Says s) line.Empty is_a is_b = absurd (says_some s (sym is_a.0 ∙ is_b))
one_line_text text (line.Says s) (line.Says t) is_a is_b = ap line.Says (one_statement s t (sym is_a.0 ∙ is_b.0))
one_line_text text (line.Says s) line.Unreadable is_a is_b = absurd (is_b.1 s is_a.0)
one_line_text text line.Unreadable line.Empty is_a is_b = absurd (is_a.0 is_b)
one_line_text text line.Unreadable (line.Says s) is_a is_b = absurd (is_a.1 s is_b.0)
one_line_text text line.Unreadable line.Unreadable is_a is_b = refl

-- what each answer of `read_line` says of the text
pub ruleset line_answers = (line_empty, line_unread, line_left)
