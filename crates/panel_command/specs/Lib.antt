pub mod PanelInput
pub mod PanelRun
pub mod inner
