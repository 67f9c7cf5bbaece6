pub mod Laws
pub mod PathWalks
pub mod Walks
pub mod inner
