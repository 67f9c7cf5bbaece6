pub mod Cursors
pub mod Fronts
pub mod Parsing
