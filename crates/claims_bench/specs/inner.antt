pub mod Plans
pub mod Rankings
pub mod Tallies
pub mod Texts
pub mod Workers
