pub mod FillRun
