pub mod Bases
pub mod KeptFields
pub mod Lists
pub mod Looks
pub mod Problems
pub mod inner
