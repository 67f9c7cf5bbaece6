-- The names that a statement gives to fields and codes.
use Rattle.std.specs.Prelude.{ℕ, ◌≤◌, List, ◌∷◌, length, All, IsTrue}
use Rattle.foundation.specs.Limits.{most_letters}
use Rattle.edit_model.specs.Surveys.{IsName, has_code_form}
use Rattle.rule_grammar.specs.declared.statement.Declaration.TheVariants as declaration
use Rattle.rule_grammar.specs.declared.statement.Statement.{Statement as Written}
use Rattle.rule_grammar.specs.declared.statement.Statement.TheVariants as statement

-- 1 to 32 letters, digits, `_`, `-` and `.`
abbrev pub IsCodeText : List ℕ → Type 0
IsCodeText code = IsTrue (has_code_form code) × (1 ≤ length code) × (length code ≤ most_letters)

-- what a declaration names has the form of a name, and its codes that of codes
abbrev pub GivesNames : Written → Type 0
GivesNames (statement.Declaration (declaration.Number name weight scale)) = IsName name
GivesNames (statement.Declaration (declaration.Code name weight list)) = IsName name × All IsCodeText (list.first ∷ list.rest)
GivesNames (statement.Rule r) = Unit {0}
