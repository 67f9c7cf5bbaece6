pub mod Laws
pub mod Runs
pub mod States
pub mod Steps
pub mod Workers
pub mod inner
