pub mod Draws
pub mod Gatherings
