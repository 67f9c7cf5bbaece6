-- Which texts are rule texts, and what is the first fault of those that are none.
use Rattle.std.specs.Prelude.{◌≡◌, ◌≢◌, ◌⊎◌, ◌+◌, ◌≤◌, ℕ, false, true, List, [], ◌∷◌, ◌++◌, length}
use Rattle.edit_model.specs.Parts.{SurveyParts}
use Rattle.rule_grammar.specs.Statements.{statement_tokens}
use Rattle.rule_grammar.specs.Tokens.{tokens_of}
use Rattle.rule_grammar.specs.declared.statement.Statement.{Statement as Written}
use Rattle.edit_language.specs.Faults.{has_fault, kind_number}
use Rattle.edit_language.specs.Lines.{has_bad_byte, read_part, text_lines}
use Rattle.edit_language.specs.Meaning.{extended}
use Rattle.edit_language.specs.declared.fault.RulesKind.{RulesKind}
use Rattle.edit_language.specs.declared.fault.RulesKind.TheVariants.{BadByte, Syntax}

-- the survey without fields and rules
abbrev pub no_statements : SurveyParts
no_statements = record { fields = []; rules = [] }

-- the line says this
pub record SaysStatement (line : List ℕ) (statement : Written) : Type 0 where
  pub clean : has_bad_byte line ≡ false
  pub tokens : tokens_of (read_part line) ≡ statement_tokens statement

-- nothing stands on the line, but blanks and a comment
pub record IsEmptyLine (line : List ℕ) : Type 0 where
  pub clean : has_bad_byte line ≡ false
  pub tokens : tokens_of (read_part line) ≡ []

-- the line says something that has no fault after the lines before it, and the survey grows by that
pub record AddsStatement (line : List ℕ) (before after : SurveyParts) : Type 0 where
  pub statement : Written
  pub says : SaysStatement line statement
  pub faultless : (kind : RulesKind) → has_fault before statement kind ≡ false
  pub grown : after ≡ extended before statement

-- what a line adds to the survey of the lines before it
abbrev pub Adds : List ℕ → SurveyParts → SurveyParts → Type 0
Adds line before after = (IsEmptyLine line × (after ≡ before)) ⊎ AddsStatement line before after

-- what the lines add to a survey, in order
abbrev pub AddsAll : List (List ℕ) → SurveyParts → SurveyParts → Type 0
AddsAll [] before after = after ≡ before
AddsAll (line ∷ lines) before after = (next : SurveyParts) × Adds line before next × AddsAll lines next after

-- a rule text: its lines, one after the other, make the survey
abbrev pub IsRuleText : List ℕ → SurveyParts → Type 0
IsRuleText bytes survey = AddsAll (text_lines bytes) no_statements survey

-- something stands on the line, and it is no statement
pub record SaysNothing (line : List ℕ) : Type 0 where
  pub not_empty : tokens_of (read_part line) ≢ []
  pub unsaid : (statement : Written) → tokens_of (read_part line) ≢ statement_tokens statement

-- the line has a fault of this kind after the lines before it
abbrev pub HasFault : List ℕ → SurveyParts → RulesKind → Type 0
HasFault line before BadByte = has_bad_byte line ≡ true
HasFault line before Syntax = SaysNothing line
HasFault line before kind = (statement : Written) × SaysStatement line statement × (has_fault before statement kind ≡ true)

-- and none of a lesser kind
pub record IsLeastFault (line : List ℕ) (before : SurveyParts) (kind : RulesKind) : Type 0 where
  pub has : HasFault line before kind
  pub least : (other : RulesKind) → HasFault line before other → kind_number kind ≤ kind_number other

-- the first line that has a fault, from 1, and its least kind: the lines before it make a survey
pub record IsRulesFault (bytes : List ℕ) (number : ℕ) (kind : RulesKind) : Type 0 where
  pub earlier : List (List ℕ)
  pub line : List ℕ
  pub later : List (List ℕ)
  pub before : SurveyParts
  pub split : text_lines bytes ≡ earlier ++ line ∷ later
  pub counted : number ≡ length earlier + 1
  pub read : AddsAll earlier no_statements before
  pub fault : IsLeastFault line before kind
