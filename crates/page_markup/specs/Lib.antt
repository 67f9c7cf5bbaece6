pub mod Drafts
pub mod Escapes
pub mod Names
pub mod OpenPages
pub mod Trees
