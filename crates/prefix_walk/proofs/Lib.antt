pub mod ClosingProofs
pub mod KeptMore
pub mod LeadLaws
pub mod PrefixTurns
pub mod Prefixes
pub mod WalkEnds
