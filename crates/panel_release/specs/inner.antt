pub mod Counts
pub mod Panels
pub mod Tellings
