pub mod NeededLines
pub mod Verdicts
pub mod inner
