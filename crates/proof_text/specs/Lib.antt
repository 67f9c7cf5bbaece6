pub mod Changes
pub mod RowTexts
pub mod inner
