pub mod EscapeLaws
pub mod ReadLaws
pub mod TreeLaws
