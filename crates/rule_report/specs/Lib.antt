pub mod LineTexts
pub mod Reports
pub mod inner
