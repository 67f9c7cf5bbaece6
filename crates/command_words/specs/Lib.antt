pub mod Asked
pub mod FileNames
pub mod Options
pub mod inner
