pub mod Marks
pub mod NextColumns
pub mod Places
pub mod Writers
