pub mod CaseLaws
mod ClaimLaws
pub mod CoherentLaws
pub mod ColumnTexts
pub mod DroppedLaws
pub mod EventLaws
pub mod GiftFaults
pub mod GivenValues
pub mod GuaranteeLaws
pub mod OneEdit
pub mod OutcomeLaws
pub mod ReadBackLaws
pub mod ReleaseLaws
pub mod ReleasedLaws
pub mod RowsLaws
pub mod SaidLaws
pub mod TextLaws
pub mod TreeLaws
