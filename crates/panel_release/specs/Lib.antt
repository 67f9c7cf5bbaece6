pub mod PanelReleases
pub mod inner
