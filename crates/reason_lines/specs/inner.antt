pub mod TableFaults
