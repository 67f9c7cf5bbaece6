pub mod Joining
pub mod KeyEntries
pub mod KeyRows
pub mod LastBelow
