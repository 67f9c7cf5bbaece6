pub mod Filled
pub mod Forced
pub mod Laws
pub mod Tests
pub mod inner
