pub mod CursorSteps
mod DeclarationLaws
pub mod Keywords
pub mod LineLaws
mod ListLaws
pub mod LongestTokens
mod ManyLaws
pub mod Numerals
pub mod OneReading
mod ReadLaws
mod RuleLaws
pub mod Runs
pub mod StatementLaws
mod SumLaws
mod TestLaws
pub mod TokenNames
pub mod TokenSteps
