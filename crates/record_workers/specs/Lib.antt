pub mod Workers
pub mod inner
