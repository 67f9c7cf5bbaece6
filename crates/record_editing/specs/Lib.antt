pub mod Donations
pub mod inner
