mod AnswerLaws
mod Collecting
pub mod IndexLaws
pub mod LegalLaws
mod Moves
mod PassLaws
mod Reading
mod ReplayLaws
mod Taking
mod WordLaws
