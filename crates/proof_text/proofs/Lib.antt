pub mod FileReads
pub mod PartTexts
pub mod PlaceLaws
pub mod ReadingLaws
pub mod RowOnce
