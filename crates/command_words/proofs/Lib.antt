pub mod AskedLaws
mod ApartLaws
mod CommandLaws
mod FoundLaws
mod NameParts
