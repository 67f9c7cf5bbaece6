pub mod Ends
pub mod Givings
pub mod Laws
pub mod Said
pub mod inner
