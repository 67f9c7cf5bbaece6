pub mod Faults
pub mod Grammar
pub mod Lines
pub mod Meaning
pub mod Printing
pub mod Reading
pub mod inner
