pub mod Indexes
pub mod ReservedWords
