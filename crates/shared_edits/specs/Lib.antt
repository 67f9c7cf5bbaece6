pub mod Pools
pub mod Walks
pub mod inner
