pub mod CountLaws
pub mod EndLaws
pub mod PanelLaws
pub mod TellingLaws
