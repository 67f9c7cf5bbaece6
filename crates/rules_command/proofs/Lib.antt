pub mod RulesLaws
pub mod RunLaws
