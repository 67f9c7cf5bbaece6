pub mod Bounds
pub mod Codes
pub mod Sides
pub mod Systems
pub mod UnderWay
