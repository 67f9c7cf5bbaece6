pub mod Clear
pub mod FitBoxes
pub mod SpotCovers
pub mod Spots
