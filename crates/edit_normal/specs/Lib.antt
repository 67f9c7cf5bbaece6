pub mod NormalForm
pub mod RuleEdits
pub mod RuleLines
pub mod inner
