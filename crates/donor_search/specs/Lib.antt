pub mod Asked
pub mod Classes
pub mod CleanRows
pub mod Decks
pub mod Places
pub mod Rankings
pub mod inner
