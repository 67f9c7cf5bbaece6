pub mod CollectedLaws
pub mod CorrectedLaws
pub mod DonorLaws
pub mod EndLaws
pub mod GivenLaws
pub mod OneEnd
pub mod OverflowLaws
