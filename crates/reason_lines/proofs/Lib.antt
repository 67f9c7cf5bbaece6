pub mod FileLaws
pub mod HeaderLaws
pub mod LineLaws
pub mod RisingLaws
pub mod WithinLaws
pub mod WordLaws
