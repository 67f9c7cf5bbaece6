pub mod LineTexts
pub mod Names
pub mod Spellings
pub mod Statements
pub mod Tokens
pub mod inner
