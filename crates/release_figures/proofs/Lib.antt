pub mod FigureLaws
pub mod RangeLaws
