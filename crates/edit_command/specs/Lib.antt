pub mod ClassFields
pub mod ClassedInput
pub mod ClassedRun
pub mod EditRun
pub mod Edits
pub mod Laws
pub mod Reach
pub mod inner
