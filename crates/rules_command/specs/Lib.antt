pub mod RulesRun
