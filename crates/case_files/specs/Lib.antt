pub mod Comparison
pub mod Spelling
