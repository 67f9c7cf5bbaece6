pub mod Rising
pub mod Totals
