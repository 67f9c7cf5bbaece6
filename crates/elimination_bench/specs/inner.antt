pub mod Differences
pub mod Folds
pub mod Listings
pub mod Tasks
pub mod Texts
pub mod Told
