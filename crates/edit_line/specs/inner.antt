pub mod CodeCounts
pub mod Keys
pub mod LineFields
pub mod OutsideLines
pub mod SetBounds
pub mod WholePlaces
