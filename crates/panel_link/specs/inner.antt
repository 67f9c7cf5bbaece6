pub mod PinLines
pub mod Tellings
