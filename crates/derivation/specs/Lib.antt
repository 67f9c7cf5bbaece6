pub mod LineLists
pub mod Premises
pub mod Refutations
pub mod SharedLines
pub mod Shown
pub mod Texts
pub mod ValidSteps
pub mod inner
