pub mod Fits
pub mod SurveyShapes
pub mod Sides
