pub mod Figures
pub mod ReleasedValues
pub mod Releases
pub mod inner
