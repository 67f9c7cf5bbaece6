mod CodeLaws
mod FieldLaws
pub mod FirstFaultLaws
pub mod GrammarLaws
mod LineLaws
pub mod PrintingCodes
pub mod PrintingFaults
pub mod PrintingFields
pub mod PrintingLaw
pub mod PrintingNames
pub mod PrintingPieces
pub mod PrintingRules
pub mod PrintingStatements
pub mod PrintingSteps
pub mod PrintingSums
pub mod PrintingTests
mod SumLaws
pub mod SurveyLaws
mod TestLaws
