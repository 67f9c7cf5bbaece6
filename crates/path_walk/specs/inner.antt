pub mod Histories
pub mod Tries
