pub mod FileReading
pub mod LeafReading
pub mod Readings
pub mod RowReading
pub mod StepReading
pub mod WordLists
