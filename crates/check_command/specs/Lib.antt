pub mod CheckRun
pub mod inner
