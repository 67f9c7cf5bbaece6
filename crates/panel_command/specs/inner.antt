pub mod KeyedRows
pub mod PanelRows
