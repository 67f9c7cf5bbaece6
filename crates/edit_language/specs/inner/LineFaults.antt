-- What the reader's answer says of the line that it is at.
use Rattle.std.specs.Prelude.{◌≡◌, ℕ, List}
use Rattle.edit_model.specs.Parts.{SurveyParts}
use Rattle.rule_grammar.specs.declared.statement.Statement.{Statement as Written}
use Rattle.edit_language.specs.Grammar.{IsLeastFault}
use Rattle.edit_language.specs.declared.fault.RulesFault.{RulesFault}
use Rattle.edit_language.specs.declared.fault.RulesFault.TheVariants as fault
use Rattle.edit_language.specs.inner.FirstFault.{IsLeastOf}

-- the line of this number has the fault, after the lines before it, and none of a lesser kind
abbrev pub IsFaultOfLine : List ℕ → SurveyParts → ℕ → RulesFault → Type 0
IsFaultOfLine line before number (fault.At at kind) = (at ≡ number) × IsLeastFault line before kind
IsFaultOfLine line before number fault.OutOfMemory = Unit {0}

-- the statement on the line of this number has the fault, after the lines before it, and none of a lesser kind
abbrev pub IsFaultOfStatement : Written → SurveyParts → ℕ → RulesFault → Type 0
IsFaultOfStatement statement before number (fault.At at kind) = (at ≡ number) × IsLeastOf before statement kind
IsFaultOfStatement statement before number fault.OutOfMemory = Unit {0}
