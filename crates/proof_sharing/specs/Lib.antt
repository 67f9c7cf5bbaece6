pub mod SharedProofs
pub mod inner
