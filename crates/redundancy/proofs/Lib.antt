pub mod BaseLaws
pub mod ProvingLaws
pub mod PruneLaws
pub mod TurnLaws
pub mod TurnLoops
pub mod WalkLaws
pub mod WalkPaths
