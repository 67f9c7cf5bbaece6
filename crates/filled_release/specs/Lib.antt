pub mod FilledFiles
pub mod inner
