pub mod Answers
pub mod Laws
pub mod LinkedCorrections
pub mod Pins
pub mod inner
