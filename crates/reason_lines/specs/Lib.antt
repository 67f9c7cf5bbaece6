pub mod Messages
pub mod ReasonFiles
pub mod ReasonLaws
pub mod ReasonLines
pub mod inner
