pub mod Classes
pub mod Needs
pub mod Rests
pub mod inner
