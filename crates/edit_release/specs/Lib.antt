pub mod Edits
pub mod Guarantee
pub mod Laws
pub mod Releases
