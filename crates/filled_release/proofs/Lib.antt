pub mod CountLaws
pub mod FilledRowLaws
pub mod ForcedLaws
pub mod PlacedRules
