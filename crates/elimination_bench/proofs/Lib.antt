mod DifferenceLaws
mod FoldLaws
mod ListingLaws
mod NameLaws
