pub mod Answers
pub mod Checks
pub mod ClaimChecks
pub mod Counts
pub mod Finds
pub mod Parts
pub mod RowFaults
pub mod Rows
