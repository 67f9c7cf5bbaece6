pub mod Fillings
pub mod Tasks
