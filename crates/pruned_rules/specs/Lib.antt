pub mod Limits
pub mod Pruned
