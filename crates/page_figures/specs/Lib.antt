pub mod Attributes
pub mod Colours
pub mod Drawings
pub mod Figures
pub mod Sums
pub mod Tables
