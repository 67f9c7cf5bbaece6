pub mod Businesses
pub mod Draws
pub mod Kinds
pub mod RecordFiles
pub mod SurveyMade
pub mod inner
