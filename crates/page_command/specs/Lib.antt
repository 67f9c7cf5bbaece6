pub mod PageFaults
pub mod PageRun
pub mod PageSources
pub mod inner
