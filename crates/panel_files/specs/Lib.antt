pub mod Joined
pub mod LastFields
pub mod inner
