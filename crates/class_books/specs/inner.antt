pub mod Hands
pub mod Numbers
