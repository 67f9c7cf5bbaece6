pub mod Arithmetic
pub mod Divisor
pub mod Formulas
pub mod Range
pub mod Spelling
