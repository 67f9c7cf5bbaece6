pub mod EditParts
pub mod EitherRun
