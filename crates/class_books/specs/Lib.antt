pub mod ClassPasses
pub mod Classes
pub mod Histories
pub mod inner
