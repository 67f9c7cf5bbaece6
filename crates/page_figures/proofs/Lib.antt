pub mod FigureLaws
pub mod Names
pub mod PageLaws
