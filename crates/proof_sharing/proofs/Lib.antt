pub mod SharedCoherence
pub mod SharedPlain
pub mod SharingLoops
pub mod TableLaws
