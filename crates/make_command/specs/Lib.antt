pub mod MakeRun
pub mod inner
