pub mod Tickets
pub mod inner
