pub mod CodeTables
pub mod FirstFault
pub mod LineFaults
pub mod Sums
pub mod Weights
