-- What an answer of the reader says of the text.
use Rattle.std.specs.Prelude.{◌≡◌, ℕ, List}
use Rattle.edit_model.specs.Parts.{SurveyParts}
use Rattle.edit_language.specs.Grammar.{IsRuleText, IsRulesFault}
use Rattle.edit_language.specs.declared.fault.RulesFault.{RulesFault}
use Rattle.edit_language.specs.declared.fault.RulesFault.TheVariants as fault
use Rattle.edit_language.specs.declared.fault.RulesKind.{RulesKind}

-- the fault is the text's first; want of memory says nothing of the text
abbrev pub IsFaultOf : List ℕ → RulesFault → Type 0
IsFaultOf bytes (fault.At line kind) = IsRulesFault bytes line kind
IsFaultOf bytes fault.OutOfMemory = Unit {0}

-- the text has no other first fault
abbrev pub IsOnlyFaultOf : List ℕ → RulesFault → Type 0
IsOnlyFaultOf bytes (fault.At line kind) = (n : ℕ) (k : RulesKind) → IsRulesFault bytes n k → (n ≡ line) × (k ≡ kind)
IsOnlyFaultOf bytes fault.OutOfMemory = Unit {0}

-- the text is no rule text; want of memory says nothing of that
abbrev pub IsNoRuleText : List ℕ → RulesFault → Type 0
IsNoRuleText bytes (fault.At line kind) = (survey : SurveyParts) → ¬ IsRuleText bytes survey
IsNoRuleText bytes fault.OutOfMemory = Unit {0}
