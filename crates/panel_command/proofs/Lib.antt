pub mod DueLaws
pub mod InputParts
pub mod PanelLaws
