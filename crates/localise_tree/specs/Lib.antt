pub mod KeptFields
pub mod inner
