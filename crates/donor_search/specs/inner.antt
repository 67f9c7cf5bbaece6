pub mod Candidates
pub mod Donors
pub mod Passings
pub mod Profiles
pub mod Searches
pub mod Spans
