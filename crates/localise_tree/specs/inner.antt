pub mod AllKept
pub mod Knowns
pub mod Nodes
pub mod Takens
