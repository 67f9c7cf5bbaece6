pub mod Claims
pub mod Entries
pub mod Passes
pub mod inner
