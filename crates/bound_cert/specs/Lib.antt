pub mod Claims
pub mod Paths
pub mod SharedTrees
pub mod Texts
pub mod Trees
pub mod ValidTrees
pub mod inner
