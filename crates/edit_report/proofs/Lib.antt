pub mod ChangedLaws
pub mod LineLaws
pub mod ReleasedLaws
pub mod SheetLaws
pub mod SummaryLaws
pub mod WrittenLaws
