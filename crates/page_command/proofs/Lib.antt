pub mod DueLaws
pub mod ReadingLaws
pub mod RefusalLaws
pub mod RunLaws
pub mod SourceLaws
