-- The parts of a front, and the tokens from any place of a line on, as the reader goes through them.
use Rattle.std.specs.Prelude.{ℕ, Bool, List, length}
use Rattle.rule_grammar.specs.Tokens.{Front, front_run, is_code_byte, is_word_byte, run_len, tokens_within, word_token}
use Rattle.rule_grammar.specs.declared.token.Token.{Token}
use Rattle.rule_grammar.specs.declared.token.Token.TheVariants as token

-- how long the word at the front is
abbrev pub word_len : List ℕ → ℕ
word_len text = run_len is_word_byte text

-- the word at the front
abbrev pub front_word : List ℕ → Front
front_word text = front_run is_word_byte word_token text

-- how long the code at the front is
abbrev pub code_len : List ℕ → ℕ
code_len text = run_len is_code_byte text

-- the code at the front
abbrev pub front_code : List ℕ → Front
front_code text = front_run is_code_byte (λ code. token.Code code) text

-- the tokens of a text that begins inside braces, or outside
abbrev pub tokens_from : Bool → List ℕ → List Token
tokens_from inside text = tokens_within (length text) inside text
