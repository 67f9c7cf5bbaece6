pub mod Indexes
pub mod Rule
pub mod Tries
