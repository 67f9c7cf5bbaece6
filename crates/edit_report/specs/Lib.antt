pub mod Ends
pub mod Laws
pub mod Layouts
pub mod Reasons
pub mod Released
pub mod Summaries
pub mod inner
