pub mod Counts
pub mod FilledRows
