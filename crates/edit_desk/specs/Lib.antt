pub mod Desk
pub mod Memory
pub mod Page
pub mod Printer
pub mod inner
